-- Passes that played their scripts, and the pool that was closed with them.
use Rattle.std.proofs.Common.{◌≡◌, ℕ, ◌<◌, ◌≤◌, Some, List, ◌++◌, length, get_or, take, refl, sym, ap, ◌∙◌, subst, arith}
use Rattle.std.specs.Prelude.{slice_get}
use Rattle.std.proofs.lemmas.List.{take-take}
use Rattle.std.proofs.lemmas.Option.{get_or_from_slice_get, same_Some, slice_get_within}
use Rattle.pool_model.specs.History.{own}
use Rattle.pool_model.proofs.Places.{slice_get_as_long}
use Rattle.block_pool.specs.Closing.{AreAllPasses, AreInOrder, FitsPass, IsClosed, Settlement}
use Rattle.block_pool.specs.Passing.{Passed, Pooled}
use Rattle.block_pool.proofs.Ordered.{ordered_are_all}
use Rattle.pass_players.specs.Moments.{Moment, moments_before}
use Rattle.pass_players.specs.Playing.{Course, PlayedOnce, course_of}
use Rattle.pass_players.specs.Settled.{OthersUntold, PlayedAll, PlayedIn, course_in}
use Rattle.pass_players.specs.Together.{PlayedTogether}
use Rattle.pass_players.proofs.Growing.{begins_le}
use Rattle.pass_players.proofs.Items.{item_at}

module _ {S O : Type 0} (fits : Course → S → O → Type 0) (told_before told_now : List (List Moment)) where
  -- what one process played stands in the history
  played_in : (settled : Settlement) (k : ℕ) (old new : Passed) (script : S) (outcome : O) (now : List Moment) → old.number ≡ k
      → settled.sizes ≡ old.sizes → FitsPass settled new → slice_get told_now k ≡ Some now
      → ((earlier : List Moment) → slice_get told_before k ≡ Some earlier → PlayedOnce fits earlier now script old new outcome)
      → (earlier : List Moment) → slice_get told_before k ≡ Some earlier
      → PlayedIn fits told_before told_now settled k old script outcome
  played_in settled k old new script outcome now number sizes fit now_at each earlier earlier_at =
      let once = each earlier earlier_at in
      let grown = once.made.grown in
      let new_number : new.number ≡ k = grown.same.number ∙ number in
      let less : length old.seen ≤ length new.seen = begins_le old.seen new.seen grown.seen in
      let same : course_of once.calls old new ≡ course_in settled k once.calls old.moves new.moves = rw (number, sizes) refl in
      record {
        calls = once.calls;
        its_own = ap (own settled.history) (sym new_number) ∙ fit.entries ∙ grown.own;
        begins = sym (take-take (length old.seen) (length new.seen) settled.history less) ∙ ap (take (length old.seen)) fit.begins
            ∙ grown.seen;
        moves = new.moves;
        its_moves = ap (slice_get settled.moves) (sym new_number) ∙ fit.moves;
        fitted = subst (λ (course : Course). fits course script outcome) same once.fitted;
        told = λ first first_at.
            let is : earlier ≡ first = same_Some earlier first (sym earlier_at ∙ first_at) in
            now_at ∙ ap Some (once.made.told ∙ ap (λ (ms : List Moment). ms ++ moments_before old.number old.own once.calls) is
            ∙ ap (λ (n : ℕ). first ++ moments_before n old.own once.calls) number);
      }

  module _ (pool : Pooled) (before after : List Passed) (scripts : List S) (outcomes : List O) (ordered : AreInOrder pool before)
      (each : length before ≡ length scripts) (t : PlayedTogether fits told_before told_now before scripts after outcomes) where
    -- passes that played stand in the order of their processes, as they did
    still_in_order : length before ≤ length told_before → length told_now ≡ length told_before → AreInOrder pool after
    still_in_order enough as_many = record {
      many = t.passes ∙ ordered.many;
      each = λ n new at.
          let old = slice_get_as_long before after n new t.passes at in
          let script = slice_get_as_long scripts before n old.0 each old.1 in
          let outcome = slice_get_as_long outcomes scripts n script.0 (sym t.one_each) script.1 in
          let within : n < length before = slice_get_within before n old.0 old.1 in
          let earlier = item_at told_before n (omega (arith, within, enough)) in
          let now = item_at told_now n (omega (arith, within, enough, as_many)) in
          let stays = (t.each n old.0 new script.0 outcome.0 earlier.0 now.0 old.1 at script.1 outcome.1 earlier.1 now.1).made.grown.same in
          let was = ordered.each n old.0 old.1 in
          (record { table = stays.table ∙ was.0.table; sizes = stays.sizes ∙ was.0.sizes }, stays.number ∙ was.1);
    }

    -- so the pool may be closed with them
    pub all_passes_again : length before ≤ length told_before → length told_now ≡ length told_before → AreAllPasses pool after
    all_passes_again enough as_many = ordered_are_all pool after (still_in_order enough as_many)

    -- what all processes played stands in the history
    pub played_all_in : (settled : Settlement) → length before ≤ length told_before → OthersUntold pool.sizes.processes told_before told_now
        → IsClosed pool after settled → PlayedAll fits told_before told_now pool before scripts outcomes settled
    played_all_in settled enough untold closed = record {
      shape = closed.shape;
      legal = closed.legal;
      one_each = t.one_each;
      each = λ k old script outcome at_old at_script at_outcome.
          let new = slice_get_as_long after before k old (sym t.passes) at_old in
          let within : k < length before = slice_get_within before k old at_old in
          let earlier = item_at told_before k (omega (arith, within, enough)) in
          let now = item_at told_now k (omega (arith, within, enough, untold.as_many)) in
          let here : get_or after k new.0 ≡ new.0 = get_or_from_slice_get after k new.0 new.0 new.1 in
          let fit : FitsPass settled new.0 = subst (FitsPass settled) here (closed.each k new.0 (slice_get_within after k new.0 new.1)) in
          let of_pool = ordered.each k old at_old in
          played_in settled k old new.0 script outcome now.0 of_pool.1 (closed.shape ∙ sym of_pool.0.sizes) fit now.1
          (λ first first_at. t.each k old new.0 script outcome first now.0 at_old new.1 at_script at_outcome first_at now.1)
          earlier.0 earlier.1;
      untold = untold;
    }
