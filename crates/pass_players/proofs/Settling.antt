-- A pool that was opened, played over and closed.
use Rattle.std.proofs.Common.{◌≡◌, ℕ, ◌<◌, List, length, refl, sym, ap, ◌∙◌, subst, arith, Some}
use Rattle.std.specs.Prelude.{slice_get}
use Rattle.std.specs.List.{All}
use Rattle.std.proofs.lemmas.Option.{get_or_from_slice_get, same_Some, slice_get_within}
use Rattle.pool_model.proofs.Places.{slice_get_as_long}
use Rattle.pool_model.specs.Legal.{IsLegal}
use Rattle.word_layout.specs.Sizes.{Sizes, limits_of}
use Rattle.block_pool.specs.Passing.{Passed, Pooled}
use Rattle.block_pool.specs.Opening.{AreOpenedPasses, opened_pass}
use Rattle.block_pool.specs.Closing.{Settlement}
use Rattle.pass_players.specs.Playing.{Course, MayPlay}
use Rattle.pass_players.specs.Together.{MayPlayTogether}
use Rattle.pass_players.specs.Moments.{Moment}
use Rattle.pass_players.specs.Settled.{FitsIn, IsPlayable, IsSettledBy, OthersUntold, PlayedAll, PlayedIn}
use Rattle.pass_players.proofs.Items.{item_at}

-- what holds of all items holds of the one at a place
all_at : {X : Type 0} (P : X → Type 0) (xs : List X) (k : ℕ) (x : X) → All P xs → slice_get xs k ≡ Some x → P x
all_at P xs k x all at = subst P (get_or_from_slice_get xs k x x at) (all k x (slice_get_within xs k x at))

module _ {S : Type 0} (pool : Pooled) (passes : List Passed) (scripts : List S) (opened : AreOpenedPasses pool passes) where
  -- a fresh pass may play a playable script
  may_play : (suits : Sizes → S → Type 0) (most_calls : S → ℕ) → All (IsPlayable suits most_calls pool.sizes) scripts
      → (k : ℕ) (pass : Passed) (script : S) → slice_get passes k ≡ Some pass → slice_get scripts k ≡ Some script
      → MayPlay suits most_calls pool pass script
  may_play suits most_calls playable k pass script at script_at =
      let fresh = opened_pass pool.table pool.sizes k in
      let low : k < pool.sizes.processes = omega (arith, slice_get_within passes k pass at, opened.many) in
      let same : fresh ≡ pass = same_Some fresh pass (sym (opened.each k low) ∙ at) in
      let may = all_at (IsPlayable suits most_calls pool.sizes) scripts k script playable script_at in
      let is : MayPlay suits most_calls pool fresh script
      = record { of_pool = record { table = refl; sizes = refl }; suited = may.suited; young = omega (arith, may.few) } in
      subst (λ (p : Passed). MayPlay suits most_calls pool p script) same is

  -- all of them may
  pub may_play_together : (suits : Sizes → S → Type 0) (most_calls : S → ℕ) (sizes : Sizes) → pool.sizes ≡ sizes
      → length scripts ≡ sizes.processes → All (IsPlayable suits most_calls sizes) scripts
      → MayPlayTogether suits most_calls pool passes scripts
  may_play_together suits most_calls sizes shape each playable = record {
    one_each = opened.many ∙ ap (λ (s : Sizes). s.processes) shape ∙ sym each;
    each = may_play suits most_calls (subst (λ (s : Sizes). All (IsPlayable suits most_calls s) scripts) (sym shape) playable);
  }

  module _ {O : Type 0} (fits : Course → S → O → Type 0) (told_before told_now : List (List Moment)) (outcomes : List O)
      (settled : Settlement) (sizes : Sizes) (shape : pool.sizes ≡ sizes) (each : length scripts ≡ length passes)
      (played : PlayedAll fits told_before told_now pool passes scripts outcomes settled) where
    as_many : length scripts ≡ pool.sizes.processes
    as_many = each ∙ opened.many

    -- what a process played, whose pass had entered nothing before
    played_at : (k : ℕ) (script : S) (outcome : O) → slice_get scripts k ≡ Some script → slice_get outcomes k ≡ Some outcome
        → PlayedIn fits told_before told_now settled k (opened_pass pool.table pool.sizes k) script outcome
    played_at k script outcome at outcome_at =
        let low : k < pool.sizes.processes = omega (arith, slice_get_within scripts k script at, as_many) in
        played.each k (opened_pass pool.table pool.sizes k) script outcome (opened.each k low) at outcome_at

    -- the pool was closed with a history of these scripts
    pub settles : IsSettledBy fits told_before told_now sizes scripts outcomes settled
    settles = record {
      shape = played.shape ∙ shape;
      legal = subst (λ (s : Sizes). IsLegal (limits_of s) settled.history) shape played.legal;
      one_each = played.one_each;
      each = λ k script outcome at outcome_at.
          let its = played_at k script outcome at outcome_at in
          record {
            calls = its.calls;
            its_own = its.its_own;
            moves = its.moves;
            its_moves = its.its_moves;
            fitted = its.fitted;
            told = its.told;
          };
      untold = subst (λ (s : Sizes). OthersUntold s.processes told_before told_now) shape played.untold;
    }

-- what each process of a settled pool played
pub part_of : {S O : Type 0} (fits : Course → S → O → Type 0) (told_before told_now : List (List Moment)) (sizes : Sizes)
    (scripts : List S) (outcomes : List O) (settled : Settlement) → length scripts ≡ sizes.processes
    → IsSettledBy fits told_before told_now sizes scripts outcomes settled → (k : ℕ) → k < sizes.processes
    → (script : S) × (outcome : O) × FitsIn fits told_before told_now settled k script outcome
part_of fits told_before told_now sizes scripts outcomes settled each all k low =
    let script = item_at scripts k (omega (arith, each)) in
    let outcome = slice_get_as_long outcomes scripts k script.0 (sym all.one_each) script.1 in
    (script.0, outcome.0, all.each k script.0 outcome.0 script.1 outcome.1)
