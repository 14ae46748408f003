-- What keeps the rule is what the table below allows.
use Rattle.std.proofs.Common.{◌≡◌, ℕ, ◌==◌, Bool, true, false, if◌then◌else◌, List, refl, sym, subst}
use Rattle.std.specs.Prelude.{slice_index, slice_set}
use mathlib.Core.Option.{some}
use lib.ListN.{get_elem?}
use prog.Atomic.{either}
use Rattle.atomic_table.specs.Table.{State, Me, Allows, keeps}
use Rattle.word_rule.specs.Moves.{Keeps, Learned, unchanged, replaced_by, exchanged, written}

either_if : (test : Bool) (hit miss : ℕ) → (if test then hit else miss) ≡ either test hit miss
either_if true hit miss = refl
either_if false hit miss = refl

module _ {S V : Type 0} (holds : List ℕ → List V → Type 0) (learn : List ℕ → List V → V → V) where
  -- A step that keeps the rule is allowed, whatever it then tells, as long as that follows from the step as it happened. The table
  -- below may write the word by a function of its own that gives the same.
  steps : (slots number id : ℕ) (me : Me S V) (place : ℕ) (write below : ℕ → ℕ) (tells : ℕ → V → Type 0) → number ≡ id
      → ((n : ℕ) → write n ≡ below n)
      → ((met : ℕ) (after : V) → Learned holds learn number place write me.0 met after → tells met after)
      → Keeps holds number me.0 place write learn
      → Allows (λ (s : State S V). holds s.words s.views) slots id me place below (λ met after. (after.1 ≡ me.1) × tells met after.0)
  steps slots number id me place write below tells same alike tell keep s held homes at small =
      let met : ℕ = slice_index s.words place in
      let after : V = learn s.words s.views me.0 in
      let seated : get_elem? s.views number ≡ some me.0 = subst (λ (k : ℕ). get_elem? s.views k ≡ some me.0) (sym same) at in
      let kept : holds (written s.words place write) (slice_set s.views number after) = keep s.words s.views held seated small in
      let step : Learned holds learn number place write me.0 met after =
      record { words = s.words; views = s.views; held = held; seated = seated; found = refl; learned = refl; kept = kept } in (
        after,
        keeps,
        tt,
        subst (λ (word : ℕ). holds (slice_set s.words place word) (slice_set s.views id after)) (alike met)
            (subst (λ (k : ℕ). holds (written s.words place write) (slice_set s.views k after)) same kept),
        (refl, tell met after step),
      )

  -- a load that keeps the rule is allowed, and tells the step as it happened
  pub loads : (slots number id : ℕ) (me : Me S V) (place : ℕ) → number ≡ id → Keeps holds number me.0 place unchanged learn
      → Allows (λ (s : State S V). holds s.words s.views) slots id me place (λ n. n)
      (λ met after. (after.1 ≡ me.1) × Learned holds learn number place unchanged me.0 met after.0)
  loads slots number id me place same = steps slots number id me place unchanged (λ n. n)
      (Learned holds learn number place unchanged me.0) same (λ n. refl) (λ met after step. step)

  -- so is a store, which tells of some word that it replaced, since it doesn't learn which
  pub stores : (slots number id : ℕ) (me : Me S V) (place value : ℕ) → number ≡ id → Keeps holds number me.0 place (replaced_by value) learn
      → Allows (λ (s : State S V). holds s.words s.views) slots id me place (λ _. value)
      (λ _ after. (after.1 ≡ me.1) × ((met : ℕ) × Learned holds learn number place (replaced_by value) me.0 met after.0))
  stores slots number id me place value same = steps slots number id me place (replaced_by value) (λ _. value)
      (λ _ after. (met : ℕ) × Learned holds learn number place (replaced_by value) me.0 met after) same (λ n. refl)
      (λ met after step. (met, step))

  -- so is a compare and exchange, which writes the new word only where it met the old one
  pub exchanges : (slots number id : ℕ) (me : Me S V) (place old new : ℕ) → number ≡ id
      → Keeps holds number me.0 place (exchanged old new) learn
      → Allows (λ (s : State S V). holds s.words s.views) slots id me place (λ n. either (n == old) new n)
      (λ met after. (after.1 ≡ me.1) × Learned holds learn number place (exchanged old new) me.0 met after.0)
  exchanges slots number id me place old new same = steps slots number id me place (exchanged old new) (λ n. either (n == old) new n)
      (Learned holds learn number place (exchanged old new) me.0) same (λ n. either_if (n == old) new n) (λ met after step. step)
