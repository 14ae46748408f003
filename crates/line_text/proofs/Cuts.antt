-- Lists that are cut at a byte, and the words of a line that is cut beside one of them.
use Rattle.std.proofs.Common.{◌≡◌, ◌≢◌, ℕ, ◌+◌, ◌-◌, ◌<◌, ◌≤◌, Bool, true, false, cond, List, [], ◌∷◌, ◌++◌, length, get_or, take, drop}
use Rattle.std.proofs.Common.{drop-cons, suc, subst, inl, inr, refl, ap, sym, ◌∙◌, arith}
use Rattle.std.specs.List.{slice_split, onto_first, All}
use Rattle.std.proofs.lemmas.List.{append-nil, length-drop, length-take-le, get_or-drop, get_or-take, take-append-drop, append_assoc}
use Rattle.std.proofs.lemmas.List.{take_more}
use Rattle.std.proofs.lemmas.List.{take_all, drop_all}
use Rattle.std.proofs.Math.Seq.{split_at}
use Rattle.std.proofs.lemmas.List.Elements.{filter-append, All-from_get_or}
use Rattle.std.proofs.lemmas.Bool.{cases_lt}
use Rattle.std.proofs.lemmas.Bool.Decides.{nat_tests}
use Rattle.std.proofs.lemmas.List.Splits.{slice_split_none}
use Rattle.line_text.specs.Words.{is_space, has_bytes, words}

-- a list has a first part, however it is cut
pub record HasFirst (parts : List (List ℕ)) : Type 0 where
  pub first : List ℕ
  pub others : List (List ℕ)
  pub is : parts ≡ first ∷ others

onto_first_has_first : (x : ℕ) (parts : List (List ℕ)) → HasFirst (onto_first x parts)
onto_first_has_first x [] = record { first = x ∷ []; others = []; is = refl }
onto_first_has_first x (part ∷ parts) = record { first = x ∷ part; others = parts; is = refl }

-- cutting a list leaves at least one part
pub slice_split_has_first : (p : ℕ → Bool) (xs : List ℕ) → HasFirst (slice_split p xs)
slice_split_has_first p [] = record { first = []; others = []; is = refl }
slice_split_has_first p (x ∷ xs) =
    elim (p x) as (λ b. HasFirst (cond b ([] ∷ slice_split p xs) (onto_first x (slice_split p xs)))) [
      | true ↦ record { first = []; others = slice_split p xs; is = refl }
      | false ↦ onto_first_has_first x (slice_split p xs)
    ]

onto_first-append : (x : ℕ) (parts others : List (List ℕ)) → HasFirst parts → onto_first x (parts ++ others) ≡ onto_first x parts ++ others
onto_first-append x parts others h = rw h.is refl

-- the parts before a byte at which a list is cut, and the parts after it
pub slice_split-append : (p : ℕ → Bool) (xs : List ℕ) (y : ℕ) (ys : List ℕ) → p y ≡ true
    → slice_split p (xs ++ y ∷ ys) ≡ slice_split p xs ++ slice_split p ys
slice_split-append p [] y ys passes = rw passes refl
slice_split-append p (x ∷ xs) y ys passes =
    rw (slice_split-append p xs y ys passes)
    (elim (p x) as (λ b.
    cond b ([] ∷ slice_split p xs ++ slice_split p ys) (onto_first x (slice_split p xs ++ slice_split p ys))
    ≡ cond b ([] ∷ slice_split p xs) (onto_first x (slice_split p xs)) ++ slice_split p ys) [
      | true ↦ refl
      | false ↦ onto_first-append x (slice_split p xs) (slice_split p ys) (slice_split_has_first p xs)
    ])

-- the words of two texts with a space between are those of the one and then of the other
pub words-append : (front : List ℕ) (back : List ℕ) → words (front ++ 32 ∷ back) ≡ words front ++ words back
words-append front back =
    rw (slice_split-append is_space front 32 back refl) (filter-append has_bytes (slice_split is_space front) (slice_split is_space back))

-- a space at the end of a line is in no word
pub words-push_space : (line : List ℕ) → words (line ++ 32 ∷ []) ≡ words line
words-push_space line = words-append line [] ∙ append-nil (words line)

-- a line has the words of what is left of it without its last space
pub words-take_space : (line : List ℕ) → 0 < length line → get_or line (length line - 1) 0 ≡ 32
    → words (take (length line - 1) line) ≡ words line
words-take_space line some ends =
    let front = take (length line - 1) line in
    sym (words-push_space front) ∙ ap (λ last. words (front ++ last ∷ [])) (sym ends)
    ∙ ap words (sym (take_more line (length line - 1) 0 (omega arith)) ∙ take_all (length line - 1 + 1) line (omega arith))

-- a line that is one run of bytes has that one word
pub words_of_run : (run : List ℕ) → 0 < length run → All (λ byte. is_space byte ≡ false) run → words run ≡ run ∷ []
words_of_run [] some spaceless = absurd (omega arith)
words_of_run (byte ∷ bytes) some spaceless = rw (slice_split_none is_space (byte ∷ bytes) spaceless) refl

-- a list and its last byte
pub by_last : (xs : List ℕ) (y : ℕ) → 0 < length xs → get_or xs (length xs - 1) 0 ≡ y → take (length xs - 1) xs ++ y ∷ [] ≡ xs
by_last xs y some is =
    let k = length xs - 1 in
    let below : k < length xs = omega arith in
    let full : k + 1 ≡ length xs = omega arith in
    ap (λ z. take k xs ++ z ∷ []) (sym is) ∙ sym (take_more xs k 0 below) ∙ ap (λ n. take n xs) full ∙ take_all (length xs) xs (omega arith)

-- The last run of bytes is the last word, where a space stands before it or nothing.
pub words-append_run : (front run : List ℕ) → 0 < length run → All (λ byte. is_space byte ≡ false) run
    → (0 < length front → get_or front (length front - 1) 0 ≡ 32) → words (front ++ run) ≡ words front ++ run ∷ []
words-append_run [] run some spaceless before = words_of_run run some spaceless
words-append_run (byte ∷ bytes) run some spaceless before =
    let front = byte ∷ bytes in
    let cut = take (length front - 1) front in
    let is : cut ++ 32 ∷ [] ≡ front = by_last front 32 (omega arith) (before (omega arith)) in
    let P : List ℕ → Type 0 = λ xs. words (xs ++ run) ≡ words xs ++ run ∷ [] in
    let joined : P (cut ++ 32 ∷ []) =
    ap words (append_assoc cut (32 ∷ []) run) ∙ words-append cut run ∙ ap (λ ws. words cut ++ ws) (words_of_run run some spaceless)
    ∙ ap (λ ws. ws ++ run ∷ []) (sym (words-push_space cut))
    in subst P is joined

-- the last run of a line begins within it, where the line doesn't end with a space
pub begins_within : (line : List ℕ) (start : ℕ) → 0 < length line → start ≤ length line → get_or line (length line - 1) 0 ≢ 32
    → (0 < start → get_or line (start - 1) 0 ≡ 32) → start < length line
begins_within line start some fits ends before =
    elim (cases_lt start (length line)) as (λ _. start < length line) [
      | inl within ↦ within
      | inr past ↦
          let at_end : start ≡ length line = omega arith in
          absurd (ends (ap (λ n. get_or line (n - 1) 0) (sym at_end) ∙ before (omega arith)))
    ]

-- The words of a line that is cut where its last word begins.
pub words_at_last_run : (line : List ℕ) (start : ℕ) → start < length line → ((k : ℕ) → start ≤ k → k < length line → get_or line k 0 ≢ 32)
    → (0 < start → get_or line (start - 1) 0 ≡ 32) → words line ≡ words (take start line) ++ drop start line ∷ []
words_at_last_run line start within run before =
    let front = take start line in
    let word = drop start line in
    let fits : start ≤ length line = omega arith in
    let long : length front ≡ start = length-take-le start line fits in
    let spaceless : All (λ byte. is_space byte ≡ false) word =
    All-from_get_or (λ byte. is_space byte ≡ false) word 0 (λ k below.
    let bound : start + k < length line = omega (arith, length-drop start line) in
    let at : get_or line (start + k) 0 ≢ 32 = run (start + k) (omega arith) bound in
    rw (get_or-drop start line k 0) (grind (arith, nat_tests)))
    in
    let ends : 0 < length front → get_or front (length front - 1) 0 ≡ 32 = λ some.
    let last : get_or line (start - 1) 0 ≡ 32 = before (omega arith) in
    rw long (rw (get_or-take start line (start - 1) 0 (omega arith)) last)
    in
    ap words (sym (take-append-drop start line)) ∙ words-append_run front word (omega (arith, length-drop start line)) spaceless ends

-- the first run of bytes, up to its end
module _ (line : List ℕ) (end : ℕ) (within : end ≤ length line) (run : (k : ℕ) → k < end → get_or line k 0 ≢ 32) where
  spaceless : All (λ byte. is_space byte ≡ false) (take end line)
  spaceless =
      All-from_get_or (λ byte. is_space byte ≡ false) (take end line) 0 (λ k below.
      let before : k < end = omega (arith, length-take-le end line within) in
      let other : get_or line k 0 ≢ 32 = run k before in
      rw (get_or-take end line k 0 before) (grind (arith, nat_tests)))

  word_is : 0 < end → words (take end line) ≡ take end line ∷ []
  word_is longer = words_of_run (take end line) (omega (arith, length-take-le end line within)) spaceless

  -- a space stands behind the first word
  before_space : 0 < end → end < length line → get_or line end 0 ≡ 32 → words line ≡ take end line ∷ words (drop end line)
  before_space longer below space =
      let parts : line ≡ take end line ++ 32 ∷ drop (suc end) line =
      split_at line end 0 below ∙ ap (λ byte. take end line ++ byte ∷ drop (suc end) line) space
      in
      let rest : drop end line ≡ 32 ∷ drop (suc end) line = drop-cons line end 0 below ∙ ap (λ byte. byte ∷ drop (suc end) line) space in
      ap words parts ∙ words-append (take end line) (drop (suc end) line)
      ∙ ap (λ first. first ++ words (drop (suc end) line)) (word_is longer)
      ∙ ap (λ more. take end line ∷ words more) (sym rest)

  -- nothing stands behind it
  at_end : 0 < end → end ≡ length line → words line ≡ take end line ∷ words (drop end line)
  at_end longer is =
      let whole : take end line ≡ line = take_all end line (omega arith) in
      let nothing : drop end line ≡ [] = drop_all end line (omega arith) in
      rw nothing (ap words (sym whole) ∙ word_is longer)

  -- the words of a line that is cut where its first word ends
  pub words_at_first_run : 0 < length line → get_or line 0 0 ≢ 32 → (end < length line → get_or line end 0 ≡ 32)
      → words line ≡ take end line ∷ words (drop end line)
  words_at_first_run longer begins space =
      let some_run : 0 < end = elim (cases_lt 0 end) as (λ _. 0 < end) [
        | inl above ↦ above
        | inr none_of ↦ let zero_is : end ≡ 0 = omega arith in
            absurd (begins (ap (λ n. get_or line n 0) (sym zero_is) ∙ space (omega arith)))
      ]
      in
      elim (cases_lt end (length line)) as (λ _. words line ≡ take end line ∷ words (drop end line)) [
        | inl below ↦ before_space some_run below (space below)
        | inr past ↦ at_end some_run (omega arith)
      ]
