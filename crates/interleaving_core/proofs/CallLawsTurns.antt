-- what a turn of a call makes of the age of its transfer
use Rattle.std.proofs.Common.{◌≡◌, ◌≢◌, ℕ, ◌+◌, ◌*◌, ◌<◌, ◌≤◌, true, false, List, length, refl, sym, ap, ◌∙◌, arith}
use Rattle.word_layout.specs.Sizes.{Sizes}
use Rattle.word_layout.specs.Names.{word_at}
use Rattle.pool_model.specs.declared.entry.Entry.{Entry}
use Rattle.transfer_schedule.specs.declared.pending.Pending.{Pending}
use Rattle.transfer_schedule.specs.declared.pending.Pending.TheVariants.{Idle}
use Rattle.pool_machine.specs.declared.call.Call.{Call}
use Rattle.pool_machine.specs.declared.call.CallStage.{CallStage}
use Rattle.pool_machine.specs.declared.call.CallStage.TheVariants.{Between, Choosing, Moving, Own}
use Rattle.pool_machine.specs.declared.call.Way.TheVariants.{Calls}
use Rattle.pool_machine.specs.declared.view.ProcessView.{ProcessView}
use Rattle.transfer_machine.specs.declared.stage.NextStep.{NextStep}
use Rattle.transfer_machine.specs.declared.stage.NextStep.TheVariants.{Rest, Announce, LoadFinalState, LoadReply, Try}
use Rattle.pool_machine.specs.Steps.{call_met_at, call_answer_at}
use Rattle.pool_machine.specs.declared.event.Happened.{Happened}
use Rattle.call_invariant.proofs.Standing.{shape_fits, some_quantum}
use Rattle.call_invariant.proofs.Uses.{steps_can_count}
use Rattle.transfer_machine.specs.Words.{met_word}
use Rattle.transfer_machine.specs.Stages.{is_rest}
use Rattle.transfer_invariant.specs.Progress.{is_moving}
use Rattle.interleaving_core.specs.Moves.{CoreState, view_at}
use Rattle.interleaving_core.specs.Runs.{Events, is_made, turning_view, after_turn, turn_answer, entries_of}
use Rattle.interleaving_core.specs.Steps.{next_action}
use Rattle.interleaving_core.specs.CallLaws.{HasPending}
use Rattle.interleaving_core.proofs.Joins.{keeps, given}
use Rattle.interleaving_core.proofs.Runs.{RunFits}
use Rattle.interleaving_core.proofs.CallLawsShort.{turn_turns, after_is, answer_is}
use Rattle.interleaving_core.proofs.CallLawsPending.{Aged, step_ages}

met_way : (sizes : Sizes) (v : ProcessView) (word : ℕ) (stage : CallStage) → (call_met_at sizes v word stage).calls.way ≡ v.calls.way
met_way sizes v word Between = refl
met_way sizes v word Choosing = refl
met_way sizes v word Moving = refl
met_way sizes v word Own = refl

-- a process with a pending transfer isn't at rest
abbrev pub PendingMoves : Sizes → List Entry → CoreState → Type 0
PendingMoves sizes history s =
    (i : ℕ) → i < sizes.processes → HasPending i s → (is_rest (view_at s i).transfer.next ≡ false)
    × ((view_at s i).pool.plan.done < sizes.quantum * sizes.length)

-- a turn of a process whose transfer is pending is a step of it
pub pending_moves : (history : List Entry) (s : CoreState) → RunFits s history → PendingMoves s.sizes history s
pending_moves history s fits i li pends =
    let (ghosts, h) = fits.meets in
    let v = view_at s i in
    let words = word_at s.sizes s.words in
    let kept = keeps s.sizes words (view_at s) history ghosts i fits.shape li h in
    let fit = shape_fits s.sizes fits.shape in
    let busy = moves v.transfer.next v.pool.plan.pending kept.runs.kept.idle pends in
    let count = steps_can_count s.sizes v (some_quantum s.sizes fit) kept (given s.sizes words (view_at s) history ghosts i li h).few
    (not_rest v.transfer.next busy) in
    (busy, low count.within kept.runs.kept.bound fit.soon)
  where
    moves : (s : NextStep) (p : Pending) → (is_moving s ≡ false → p ≡ Idle) → p ≢ Idle → is_rest s ≡ false
    moves Rest p idle pends = absurd (pends (idle refl))
    moves Announce p idle pends = refl
    moves (Try second step) p idle pends = refl
    moves LoadFinalState p idle pends = refl
    moves LoadReply p idle pends = refl

    not_rest : (s : NextStep) → is_rest s ≡ false → s ≢ Rest
    not_rest s busy e = grind arith

    low : {done bound most all : ℕ} → done + 1 ≤ bound → bound ≡ most → most ≤ all → done < all
    low within e soon = omega (arith, within, e, soon)

-- a turn of a call keeps the age of the transfer
abbrev pub TurnsAge : Sizes → List Entry → CoreState → Type 0
TurnsAge sizes history s =
    (i n : ℕ) (call : Call) → is_made (Events i call) s ≡ true → Aged sizes.quantum n (turning_view (Events i call) s)
    → is_rest (view_at (after_turn (Events i call) s) i).transfer.next ≡ false → HasPending i (after_turn (Events i call) s)
    → Aged sizes.quantum (n + length (entries_of (turn_answer (Events i call) s))) (view_at (after_turn (Events i call) s) i)
    × ((view_at (after_turn (Events i call) s) i).calls.way ≡ Calls)

-- each call makes a quantum of a pending transfer's steps
pub turns_age : (history : List Entry) (s : CoreState) → RunFits s history → TurnsAge s.sizes history s
turns_age history s fits i n call made aged goes pends =
    let v = turning_view (Events i call) s in
    let word = met_word s.sizes s.words (next_action s.sizes v) in
    let k = turn_turns history s i call fits made in
    let after = after_is s history i call fits made k.calls in
    let met = call_met_at s.sizes v word v.calls.stage in
    let ages = step_ages s.sizes v word n v.calls.stage refl aged k.changes k.waits (sym (ap (λ x. is_rest x.transfer.next) after) ∙ goes)
    (λ e. pends (ap (λ x. x.pool.plan.pending) after ∙ e)) in (
      both_same s.sizes.quantum n met (view_at (after_turn (Events i call) s) i) (call_answer_at v word v.calls.stage)
          (turn_answer (Events i call) s) after (answer_is s i call made k.calls) ages,
      ap (λ x. x.calls.way) after ∙ met_way s.sizes v word v.calls.stage ∙ k.way,
    )
  where
    both_same : (quantum n : ℕ) (met after : ProcessView) (told answer : Happened) → after ≡ met → answer ≡ told
        → Aged quantum (n + length (entries_of told)) met → Aged quantum (n + length (entries_of answer)) after
    both_same quantum n met after told answer e f ages = rw (e, f) ages
