-- What entries without a refusal tell of the script that they fit.
use Rattle.std.proofs.Common.{◌≡◌, ℕ, ◌+◌, ◌<◌, ◌≤◌, zero, suc, Bool, true, false, cond, not, List, [], ◌∷◌, ◌++◌, length, take, get_or}
use Rattle.std.proofs.Common.{replicate, refl, sym, ap, ◌∙◌, subst, inl, inr, arith, append_assoc, Some}
use Rattle.std.specs.List.{Contains, flat_map, count_by, slice_get, slice_index}
use Rattle.std.proofs.Math.Seq.{take-append_seam}
use Rattle.std.proofs.lemmas.List.Sums.{sum_by-cons}
use Rattle.std.proofs.lemmas.List.Elements.{Contains-append_cases}
use Rattle.pool_model.specs.declared.entry.Entry.{Entry}
use Rattle.pool_model.specs.declared.entry.Entry.TheVariants.{Got, Back, Dry}
use Rattle.pool_model.specs.History.{is_got, is_back}
use Rattle.enough_blocks.specs.Enough.{HoldsAtMost, NoneIsDry}
use Rattle.enough_blocks.proofs.Lists.{at-le-greatest}
use Rattle.enough_blocks.proofs.Refusals.{front_is_not_dry, none_rest}
use Rattle.mtrace_reader.specs.declared.steps.Step.{Step}
use Rattle.mtrace_reader.specs.declared.steps.Step.TheVariants.{Place, Leave}
use Rattle.mtrace_reader.specs.declared.steps.Script.{Script}
use Rattle.mtrace_reader.specs.Script.{IsWellFormed, LeavesPlaced}
use Rattle.trace_player.specs.Tally.{is_refused, fills, empties, holding, no_refusals, peak_of}
use Rattle.trace_player.specs.Fit.{Fits, calls_of}
use Rattle.trace_player.proofs.Lists.{one_if}
use Rattle.trace_player.proofs.Determined.{slice_get_seam}

-- refusals that are all false refuse no slot
pub none_refused : (n slot : ℕ) → is_refused (replicate n false) slot ≡ false
none_refused zero slot = refl
none_refused (suc n) zero = refl
none_refused (suc n) (suc slot) = none_refused n slot

-- the slots that these steps place were not refused
abbrev pub Unrefused : List Bool → List Step → Type 0
Unrefused refused steps = (slot : ℕ) → Contains steps (Place slot) → is_refused refused slot ≡ false

-- the entries got and gave back as many blocks as the first so many steps do where nothing is refused
pub record CountsSteps (free : List Bool) (steps : List Step) (entries : List Entry) : Type 0 where
  pub count : ℕ
  pub within : count ≤ length steps
  pub gots : count_by is_got entries ≡ count_by (fills free) (take count steps)
  pub backs : count_by is_back entries ≡ count_by (empties free) (take count steps)

count_cons : {A : Type 0} (p : A → Bool) (x : A) (xs : List A) (t : Bool) → p x ≡ t → count_by p (x ∷ xs) ≡ one_if t + count_by p xs
count_cons p x xs t e = sum_by-cons (λ y. cond (p y) 1 0) x xs ∙ ap (λ u. one_if u + count_by p xs) e

-- a step more was made, which placed no refused slot
one_more : (refused : List Bool) (before : List Step) (step : Step)
    → ((slot : ℕ) → step ≡ Place slot → is_refused refused slot ≡ false) → Unrefused refused before
    → Unrefused refused (before ++ step ∷ [])
one_more refused before step given so_far slot has = elim (Contains-append_cases before (step ∷ []) (Place slot) has) [
  | inl earlier ↦ so_far slot earlier
  | inr last ↦ here last.0 last.1 last.2
]
  where
    here : (k : ℕ) → k < 1 → get_or (step ∷ []) k (Place slot) ≡ Place slot → is_refused refused slot ≡ false
    here zero low at = given slot at
    here (suc k) low at = absurd (omega (arith, low))

place_more : (refused : List Bool) (before : List Step) (slot : ℕ) → is_refused refused slot ≡ false → Unrefused refused before
    → Unrefused refused (before ++ Place slot ∷ [])
place_more refused before slot given = one_more refused before (Place slot) (λ other is.
    let same : slot ≡ other = cc in
    subst (λ (s : ℕ). is_refused refused s ≡ false) same given)

leave_more : (refused : List Bool) (before : List Step) (slot : ℕ) → Unrefused refused before
    → Unrefused refused (before ++ Leave slot ∷ [])
leave_more refused before slot = one_more refused before (Leave slot) (λ other is. absurd cc)

-- a slot that is left was placed before, and so wasn't refused
left_unrefused : (refused : List Bool) (before steps : List Step) (slot : ℕ) → LeavesPlaced (before ++ Leave slot ∷ steps)
    → Unrefused refused before → is_refused refused slot ≡ false
left_unrefused refused before steps slot leaves so_far =
    let placed = (leaves (length before) slot (slice_get_seam before steps (Leave slot))).0 in
    so_far slot (subst (λ (front : List Step). Contains front (Place slot)) (take-append_seam before (Leave slot ∷ steps)) placed)

one_on : (before steps : List Step) (step : Step) → LeavesPlaced (before ++ step ∷ steps) → LeavesPlaced ((before ++ step ∷ []) ++ steps)
one_on before steps step leaves = subst LeavesPlaced (sym (append_assoc before (step ∷ []) steps)) leaves

module _ (i : ℕ) (refused free : List Bool) (blocks : List ℕ) (frees : (slot : ℕ) → is_refused free slot ≡ false) where
  -- the call for a step, where the slot was refused or not
  abbrev calls_at : Step → Bool → List Entry
  calls_at (Place slot) dry = cond dry (Dry i) (Got i (slice_index blocks slot)) ∷ []
  calls_at (Leave slot) dry = cond dry [] (Back i (slice_index blocks slot) ∷ [])

  -- one entry more, of one step more: it gets a block where the step fills a slot, and gives one back where the step empties one
  one_counted : (step : Step) (steps : List Step) (entry : Entry) (entries : List Entry) → is_got entry ≡ fills free step
      → is_back entry ≡ empties free step → CountsSteps free steps entries → CountsSteps free (step ∷ steps) (entry ∷ entries)
  one_counted step steps entry entries got back counted = record {
    count = suc counted.count;
    within = omega (arith, counted.within);
    gots = omega (
      arith,
      counted.gots,
      count_cons is_got entry entries (fills free step) got,
      count_cons (fills free) step (take counted.count steps) (fills free step) refl,
    );
    backs = omega (
      arith,
      counted.backs,
      count_cons is_back entry entries (empties free step) back,
      count_cons (empties free) step (take counted.count steps) (empties free step) refl,
    );
  }

  -- the first of the calls for steps, where none of these is a refusal
  pub counts_steps : (before steps : List Step) (entries rest : List Entry) → LeavesPlaced (before ++ steps) → Unrefused refused before
      → NoneIsDry entries → entries ++ rest ≡ flat_map (calls_of i refused blocks) steps → CountsSteps free steps entries
  counts_steps before steps [] rest leaves so_far none made = record { count = 0; within = omega arith; gots = refl; backs = refl }
  counts_steps before [] (entry ∷ entries) rest leaves so_far none made = absurd cc
  counts_steps before (Place slot ∷ steps) (entry ∷ entries) rest leaves so_far none made =
      by_answer (λ unrefused. counts_steps (before ++ Place slot ∷ []) steps entries rest (one_on before steps (Place slot) leaves)
      unrefused (none_rest (entry ∷ []) entries none))
      (is_refused refused slot) refl
    where
      by_answer : (Unrefused refused (before ++ Place slot ∷ []) → entries ++ rest ≡ flat_map (calls_of i refused blocks) steps
          → CountsSteps free steps entries) → (dry : Bool) → is_refused refused slot ≡ dry
          → CountsSteps free (Place slot ∷ steps) (entry ∷ entries)
      by_answer on true answered =
          let first : entry ∷ (entries ++ rest) ≡ Dry i ∷ flat_map (calls_of i refused blocks) steps
          = made ∙ ap (λ dry. calls_at (Place slot) dry ++ flat_map (calls_of i refused blocks) steps) answered in
          let is : entry ≡ Dry i = cc in
          absurd (front_is_not_dry i entry entries none is)
      by_answer on false answered =
          let first : entry ∷ (entries ++ rest) ≡ Got i (slice_index blocks slot) ∷ flat_map (calls_of i refused blocks) steps
          = made ∙ ap (λ dry. calls_at (Place slot) dry ++ flat_map (calls_of i refused blocks) steps) answered in
          let is : entry ≡ Got i (slice_index blocks slot) = cc in
          let more : entries ++ rest ≡ flat_map (calls_of i refused blocks) steps = cc in
          one_counted (Place slot) steps entry entries (ap is_got is ∙ sym (ap not (frees slot))) (ap is_back is)
          (on (place_more refused before slot answered so_far) more)
  counts_steps before (Leave slot ∷ steps) (entry ∷ entries) rest leaves so_far none made =
      let given = left_unrefused refused before steps slot leaves so_far in
      let first : entry ∷ (entries ++ rest) ≡ Back i (slice_index blocks slot) ∷ flat_map (calls_of i refused blocks) steps
      = made ∙ ap (λ dry. calls_at (Leave slot) dry ++ flat_map (calls_of i refused blocks) steps) given in
      let is : entry ≡ Back i (slice_index blocks slot) = cc in
      let more : entries ++ rest ≡ flat_map (calls_of i refused blocks) steps = cc in
      one_counted (Leave slot) steps entry entries (ap is_got is) (ap is_back is ∙ sym (ap not (frees slot)))
      (counts_steps (before ++ Leave slot ∷ []) steps entries rest (one_on before steps (Leave slot) leaves)
      (leave_more refused before slot so_far) (none_rest (entry ∷ []) entries none) more)

  -- all calls for steps, where none is a refusal, are those where nothing is refused
  pub calls_without_refusals : (before steps : List Step) → LeavesPlaced (before ++ steps) → Unrefused refused before
      → NoneIsDry (flat_map (calls_of i refused blocks) steps)
      → flat_map (calls_of i refused blocks) steps ≡ flat_map (calls_of i free blocks) steps
  calls_without_refusals before [] leaves so_far none = refl
  calls_without_refusals before (Place slot ∷ steps) leaves so_far none =
      by_answer (calls_without_refusals (before ++ Place slot ∷ []) steps (one_on before steps (Place slot) leaves))
      (is_refused refused slot) refl
    where
      by_answer : (Unrefused refused (before ++ Place slot ∷ []) → NoneIsDry (flat_map (calls_of i refused blocks) steps)
          → flat_map (calls_of i refused blocks) steps ≡ flat_map (calls_of i free blocks) steps) → (dry : Bool)
          → is_refused refused slot ≡ dry
          → flat_map (calls_of i refused blocks) (Place slot ∷ steps) ≡ flat_map (calls_of i free blocks) (Place slot ∷ steps)
      by_answer on true answered =
          let call : Entry = cond (is_refused refused slot) (Dry i) (Got i (slice_index blocks slot)) in
          let is : call ≡ Dry i = ap (λ dry. cond dry (Dry i) (Got i (slice_index blocks slot))) answered in
          absurd (front_is_not_dry i call (flat_map (calls_of i refused blocks) steps) none is)
      by_answer on false answered =
          let more = on (place_more refused before slot answered so_far)
          (none_rest (calls_at (Place slot) (is_refused refused slot)) (flat_map (calls_of i refused blocks) steps) none) in
          ap (λ dry. calls_at (Place slot) dry ++ flat_map (calls_of i refused blocks) steps) (answered ∙ sym (frees slot))
          ∙ ap (λ calls. calls_at (Place slot) (is_refused free slot) ++ calls) more
  calls_without_refusals before (Leave slot ∷ steps) leaves so_far none =
      let given = left_unrefused refused before steps slot leaves so_far in
      let rest_none = none_rest (calls_at (Leave slot) (is_refused refused slot)) (flat_map (calls_of i refused blocks) steps) none in
      let more = calls_without_refusals (before ++ Leave slot ∷ []) steps (one_on before steps (Leave slot) leaves)
      (leave_more refused before slot so_far) rest_none in
      ap (λ dry. calls_at (Leave slot) dry ++ flat_map (calls_of i refused blocks) steps) (given ∙ sym (frees slot))
      ∙ ap (λ calls. calls_at (Leave slot) (is_refused free slot) ++ calls) more

-- what is held after some of the steps is at most the peak
held-le-peak : (refused : List Bool) (steps : List Step) (count : ℕ) → count ≤ length steps
    → holding refused (take count steps) ≤ peak_of refused steps
held-le-peak refused steps count low =
    at-le-greatest (λ place. holding refused (take place steps)) (length steps + 1) count (omega (arith, low))

-- while none of its entries is a refusal, a process whose entries fit a script holds no more blocks than the script at most
pub holds-at-most-peak : (k : ℕ) (script : Script) (refused : List Bool) (entries : List Entry) → IsWellFormed script
    → Fits k script refused entries → HoldsAtMost (peak_of (no_refusals script) script.steps) entries
holds-at-most-peak k script refused entries formed fits first rest parts none =
    let counted = counts_steps k refused (no_refusals script) fits.blocks (none_refused script.news) [] script.steps first rest
    formed.leaves (λ slot has. absurd (omega (arith, has.1))) none (parts ∙ fits.step_by_step) in
    omega (arith, counted.gots, counted.backs, held-le-peak (no_refusals script) script.steps counted.count counted.within)
