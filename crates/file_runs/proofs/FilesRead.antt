-- Files that are read in turn: one file on, and where the reading ends.
use Rattle.std.proofs.Common.{◌≡◌, ℕ, ◌+◌, ◌-◌, ◌^◌, ◌<◌, ◌≤◌, suc, List, [], ◌∷◌, ◌++◌, length, map, get_or, refl, ap, ◌∙◌, subst}
use Rattle.std.proofs.Common.{inl, inr, arith, length-append, Some, None, Ok, Err}
use Rattle.std.specs.Prelude.{Option, option_map, slice_get, String, string_bytes}
use Rattle.std.specs.declared.alloc.Global.{Global}
use Rattle.std.proofs.lemmas.Bool.{cases_lt}
use Rattle.std.proofs.lemmas.Option.{slice_get-map, slice_get_read, slice_get_within}
use Rattle.pool_model.proofs.Places.{slice_get-push_cases}
use Rattle.line_text.specs.declared.fault.TextFault.{TextFault}
use Rattle.line_text.specs.declared.fault.TextFault.TheVariants.{ReadFault, TooLong, BadLine, NoMemory}
use Rattle.pool_io.specs.declared.files.Files.{Ghosts}
use Rattle.pool_io.specs.Counts.{HasRisen}
use Rattle.file_runs.specs.declared.reading.ReadFile.{ReadFile}
use Rattle.file_runs.specs.Reading.{AreFine, FileAnswers, Hold, IsWithin, ReadsFirst, StopsAt, StopsWith, taken}

-- the name of the file that is read next
pub name_at : (names : List (String Global)) (i : ℕ) (name : String Global) → i < length names → name ≡ get_or names i name
    → slice_get (map string_bytes names) i ≡ Some (string_bytes name)
name_at names i name lt is = slice_get-map string_bytes names i
    ∙ ap (option_map string_bytes) (slice_get_read names (length names) i name refl lt is)

-- what is held by more names is held by the first of them
hold_fewer : (told : List ℕ → Option (List ℕ)) (names : List (List ℕ)) (content : ℕ → List ℕ) (i : ℕ) → Hold told names content (i + 1)
    → Hold told names content i
hold_fewer told names content i hold j name lt at = hold j name (omega arith) at

-- one file more is fine
fine_more : (bad : List ℕ → Option ℕ) (content : ℕ → List ℕ) (i : ℕ) → AreFine bad content i → IsWithin (taken content i) (content i)
    → bad (content i) ≡ None → AreFine bad content (i + 1)
fine_more bad content i fine within good j lt = elim (cases_lt j i) [
  | inl k ↦ fine j k
  | inr ge ↦ let same : i ≡ j = omega arith in
      subst (λ (k : ℕ). IsWithin (taken content k) (content k) × (bad (content k) ≡ None)) same (within, good)
]

module _ {T : Type 0} (bad : List ℕ → Option ℕ) (Says : List ℕ → T → Type 0) where
  pub reads_next : (Reliable : Type 0) (told : List ℕ → Option (List ℕ)) (names : List (List ℕ)) (i total : ℕ)
      (scripts : List T) (name : List ℕ) (file : ReadFile T)
      → slice_get names i ≡ Some name → ReadsFirst bad Says told names i total scripts
      → ((bytes : List ℕ) → told name ≡ Some bytes → FileAnswers bad Says Reliable (2 ^ 26 - total) bytes (Ok file))
      → file.bytes ≤ 2 ^ 26 - total
      → ReadsFirst bad Says told names (i + 1) (total + file.bytes) (scripts ++ file.said ∷ [])
  reads_next Reliable told names i total scripts name file at reads answer small = record {
    one_each = omega (arith, length-append scripts (file.said ∷ []), reads.one_each);
    few = omega (arith, reads.few, small);
    all_bytes = λ content hold.
        let here : FileAnswers bad Says Reliable (2 ^ 26 - total) (content i) (Ok file) =
        answer (content i) (hold i name (omega arith) at) in
        let before : total ≡ taken content i = reads.all_bytes content (hold_fewer told names content i hold) in
        let more : taken content (suc i) ≡ taken content i + length (content i) = refl in
        let next : taken content (i + 1) ≡ taken content (suc i) = ap (taken content) (let e : i + 1 ≡ suc i = omega arith in e) in
        omega (arith, before, here.3, more, next);
    fine = λ content hold.
        let here : FileAnswers bad Says Reliable (2 ^ 26 - total) (content i) (Ok file) =
        answer (content i) (hold i name (omega arith) at) in
        let before : total ≡ taken content i = reads.all_bytes content (hold_fewer told names content i hold) in
        fine_more bad content i (reads.fine content (hold_fewer told names content i hold))
        (omega (arith, here.0), omega (arith, here.0, before, reads.few)) here.1;
    read = λ content hold j script got. elim (slice_get-push_cases scripts file.said script j got) [
      | inl k ↦ reads.read content (hold_fewer told names content i hold) j script k.1
      | inr e ↦
          let here : FileAnswers bad Says Reliable (2 ^ 26 - total) (content i) (Ok file) =
          answer (content i) (hold i name (omega arith) at) in
          let same : i ≡ j = omega (arith, reads.one_each, e.0) in
          subst (λ (k : ℕ). Says (content k) script) same (subst (Says (content i)) e.1 here.2)
    ];
  }

  stops_at : (told : List ℕ → Option (List ℕ)) (names : List (List ℕ)) (i total : ℕ) (scripts : List T) (name : List ℕ)
      (Fact : ℕ → List ℕ → Type 0)
      → slice_get names i ≡ Some name → ReadsFirst bad Says told names i total scripts
      → ((bytes : List ℕ) → told name ≡ Some bytes → Fact total bytes) → StopsAt bad told names (i + 1) Fact
  stops_at told names i total scripts name Fact at reads fact = record {
    index = i;
    number = refl;
    within = slice_get_within names i name at;
    earlier = λ content hold. reads.fine content hold;
    here = λ content hold. subst (λ (n : ℕ). Fact n (content i)) (reads.all_bytes content (hold_fewer told names content i hold))
        (fact (content i) (hold i name (omega arith) at));
  }

  -- a fault at the next file, where the files were as reliable before the reading as at this file
  pub stops_next : {F S : Type 0} (of : Ghosts F S) (before between after : F) (names : List (List ℕ)) (i total : ℕ)
      (scripts : List T) (name : List ℕ) (fault : TextFault)
      → slice_get names i ≡ Some name → ReadsFirst bad Says (of.told before) names i total scripts
      → ((bytes : List ℕ) → of.told before name ≡ Some bytes
      → FileAnswers bad Says (of.reliable between) (2 ^ 26 - total) bytes (Err fault))
      → (of.reliable before → of.reliable between) → of.faults before ≤ of.faults between
      → (fault ≡ ReadFault → HasRisen (of.faults between) (of.faults after))
      → StopsWith of before after bad names (i + 1) fault
  stops_next of before between after names i total scripts name ReadFault at reads answer reliable fell risen = (
    stops_at (of.told before) names i total scripts name (λ _ _. ¬ of.reliable before) at reads
        (λ bytes has sure. answer bytes has (reliable sure)),
    (let up : HasRisen (of.faults between) (of.faults after) = risen refl in omega (arith, up, fell)),
  )
  stops_next of before between after names i total scripts name TooLong at reads answer reliable fell risen =
      stops_at (of.told before) names i total scripts name (λ others bytes. ¬ IsWithin others bytes) at reads
      (λ bytes has within. omega (arith, answer bytes has, within.0, within.1, reads.few))
  stops_next of before between after names i total scripts name (BadLine line) at reads answer reliable fell risen =
      stops_at (of.told before) names i total scripts name (λ others bytes. IsWithin others bytes × (bad bytes ≡ Some line)) at
      reads
      (λ bytes has. let here : FileAnswers bad Says (of.reliable between) (2 ^ 26 - total) bytes (Err (BadLine line)) = answer bytes has in
      ((omega (arith, here.0), omega (arith, here.0, reads.few)), here.1))
  stops_next of before between after names i total scripts name NoMemory at reads answer reliable fell risen = tt
