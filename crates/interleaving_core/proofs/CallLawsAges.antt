-- the age of a transfer that a call begins, from turn to turn of a run
use Rattle.std.proofs.Common.{◌≡◌, ◌≢◌, ℕ, ◌+◌, ◌*◌, ◌<◌, ◌≤◌, Bool, true, false, List, length, refl, ap, ◌∙◌, inl, inr, ◌⊎◌, arith}
use Rattle.std.specs.Prelude.{nat_lt, ◌&&◌, if◌then◌else◌}
use Rattle.word_layout.specs.Sizes.{Sizes}
use Rattle.word_layout.specs.Names.{word_at}
use Rattle.pool_model.specs.declared.entry.Entry.{Entry}
use Rattle.transfer_schedule.specs.Numbers.{is_idle}
use Rattle.transfer_schedule.specs.declared.pending.Pending.{Pending}
use Rattle.transfer_schedule.specs.declared.pending.Pending.TheVariants.{Idle}
use Rattle.transfer_schedule.proofs.Products.{less_of_times}
use Rattle.transfer_machine.specs.Words.{met_word}
use Rattle.pool_machine.specs.declared.call.Call.{Call}
use Rattle.pool_machine.specs.declared.call.CallStage.{CallStage}
use Rattle.pool_machine.specs.declared.call.CallStage.TheVariants.{Between, Choosing, Moving, Own}
use Rattle.pool_machine.specs.declared.call.Way.TheVariants.{Calls}
use Rattle.pool_machine.specs.declared.view.ProcessView.{ProcessView}
use Rattle.transfer_machine.specs.declared.stage.NextStep.{NextStep}
use Rattle.transfer_machine.specs.declared.stage.NextStep.TheVariants.{Rest}
use Rattle.pool_machine.specs.Conditions.{may_use_transfers}
use Rattle.pool_machine.specs.Steps.{call_met_at}
use Rattle.pool_machine.specs.declared.event.Happened.{Happened}
use Rattle.pool_machine.specs.declared.event.Happened.TheVariants.{Ignored}
use Rattle.transfer_invariant.specs.Progress.{is_moving}
use Rattle.call_invariant.proofs.Uses.{idle_pool_rests}
use Rattle.interleaving_core.specs.Moves.{CoreState, view_at, started_at}
use Rattle.interleaving_core.specs.Runs.{Turn, Moves, Events, IsRun, turns, is_made, turning_view, after_turn, turn_answer, entries_of}
use Rattle.interleaving_core.specs.Steps.{is_at_step, next_action}
use Rattle.interleaving_core.specs.CallLaws.{IsIdle, HasPending, PendsSince, pends_first, pends_on, pends_still, pends_too}
use Rattle.interleaving_core.specs.CallLaws.{TransfersAreShort}
use Rattle.interleaving_core.proofs.Joins.{keeps}
use Rattle.interleaving_core.proofs.Begins.{choosing_in_calls}
use Rattle.interleaving_core.proofs.Runs.{RunFits}
use Rattle.interleaving_core.proofs.CallLaws.{every_run}
use Rattle.interleaving_core.proofs.CallLawsShort.{Turning, turn_turns, after_is, other_view, ignored_state}
use Rattle.interleaving_core.proofs.CallLawsPending.{Aged, own_step_pending, begun_ages, chosen_ages, first_ages}
use Rattle.interleaving_core.proofs.CallLawsTurns.{TurnsAge, turns_age, PendingMoves, pending_moves}
use Rattle.interleaving_core.proofs.Withheld.{idle_is}

-- the view with which a process turns has the age of its pending transfer
turning_ages : (quantum n : ℕ) (v : ProcessView) (call : Call) (stage : CallStage) → v.calls.stage ≡ stage
    → (stage ≡ Choosing → v.pool.plan.pending ≡ Idle)
    → is_idle v.pool.plan.pending ≡ false → Aged quantum n v → Aged quantum n (if is_at_step stage then v else started_at stage call v)
turning_ages quantum n v call Between e rests busy aged = begun_ages quantum v n call e busy aged
turning_ages quantum n v call Choosing e rests busy aged = absurd (both_ways (ap is_idle (rests refl)) busy)
  where
    both_ways : {t : Bool} → t ≡ true → t ≡ false → ⊥
    both_ways e f = grind arith
turning_ages quantum n v call Moving e rests busy aged = aged
turning_ages quantum n v call Own e rests busy aged = aged

-- a search that is to choose has nothing pending
abbrev pub ChoosingIsIdle : Sizes → List Entry → CoreState → Type 0
ChoosingIsIdle sizes history s = (i : ℕ) → i < sizes.processes → (view_at s i).calls.stage ≡ Choosing → IsIdle i s

choosing_is_idle : (history : List Entry) (s : CoreState) → RunFits s history → ChoosingIsIdle s.sizes history s
choosing_is_idle history s fits i li choosing =
    let (ghosts, h) = fits.meets in
    let v = view_at s i in
    let kept = keeps s.sizes (word_at s.sizes s.words) (view_at s) history ghosts i fits.shape li h in
    kept.runs.kept.idle (at_rest v.transfer.next ((choosing_in_calls s.sizes i v (ghosts.ledgers i) choosing (h.pools i li)).stage.rests
    choosing))
  where
    at_rest : (s : NextStep) → s ≡ Rest → is_moving s ≡ false
    at_rest s e = rw e refl

not_idle : (p : Pending) → p ≢ Idle → is_idle p ≡ false
not_idle p pends = elim (cases (is_idle p) refl) [
  | inl e ↦ absurd (pends (idle_is p e))
  | inr e ↦ e
]
  where
    cases : (t : Bool) {u : Bool} → u ≡ t → (u ≡ true) ⊎ (u ≡ false)
    cases true e = inl e
    cases false e = inr e

-- a turn with nothing pending leaves nothing pending, unless it begins a transfer
idle_stays : (sizes : Sizes) (v : ProcessView) (word : ℕ) (stage : CallStage) → Turning sizes v → v.calls.stage ≡ stage
    → v.pool.plan.pending ≡ Idle → (call_met_at sizes v word stage).pool.plan.pending ≡ Idle
idle_stays sizes v word Between k e idle = idle
idle_stays sizes v word Choosing k e idle = idle
idle_stays sizes v word Moving k e idle = absurd (k.waits e (k.rest idle))
idle_stays sizes v word Own k e idle = own_step_pending sizes v word Own refl ∙ idle

first_turn_ages : (quantum : ℕ) (v : ProcessView) (call : Call) (stage : CallStage) → v.pool.plan.pending ≡ Idle
    → v.pool.plan.done ≡ 0
    → Aged quantum 0 (if is_at_step stage then v else started_at stage call v)
    ⊎ ((if is_at_step stage then v else started_at stage call v).pool.plan.pending ≡ Idle)
first_turn_ages quantum v call Between idle none = elim (first_ages quantum v call idle none) [
  | inl aged ↦ inl aged
  | inr rest ↦ inr rest.0
]
first_turn_ages quantum v call Choosing idle none = elim (chosen_ages quantum v none) [
  | inl aged ↦ inl aged
  | inr rest ↦ inr rest.0
]
first_turn_ages quantum v call Moving idle none = inr idle
first_turn_ages quantum v call Own idle none = inr idle

-- with nothing pending no step is counted
abbrev pub RestCounts : Sizes → List Entry → CoreState → Type 0
RestCounts sizes history s = (i : ℕ) → i < sizes.processes → IsIdle i s → (view_at s i).pool.plan.done ≡ 0

rest_counts : (history : List Entry) (s : CoreState) → RunFits s history → RestCounts s.sizes history s
rest_counts history s fits i li idle =
    let (ghosts, h) = fits.meets in
    let v = view_at s i in
    let kept = keeps s.sizes (word_at s.sizes s.words) (view_at s) history ghosts i fits.shape li h in
    kept.runs.kept.none (at_rest v.transfer.next (idle_pool_rests s.sizes v kept idle))
  where
    at_rest : (s : NextStep) → s ≡ Rest → is_moving s ≡ false
    at_rest s e = rw e refl

-- the turn that begins a transfer
abbrev pub FirstTurnsAge : Sizes → List Entry → CoreState → Type 0
FirstTurnsAge sizes history s =
    (i : ℕ) (call : Call) → i < sizes.processes → is_made (Events i call) s ≡ true → IsIdle i s → HasPending i
    (after_turn (Events i call) s) → Aged sizes.quantum 0 (turning_view (Events i call) s)

first_turns_age : (history : List Entry) (s : CoreState) → RunFits s history → FirstTurnsAge s.sizes history s
first_turns_age history s fits i call li made idle pends =
    let v = view_at s i in
    let x = turning_view (Events i call) s in
    let word = met_word s.sizes s.words (next_action s.sizes x) in
    let k = turn_turns history s i call fits made in
    elim (first_turn_ages s.sizes.quantum v call v.calls.stage idle (rest_counts history s fits i li idle)) [
      | inl aged ↦ aged
      | inr rest ↦ absurd (pends
          (ap (λ y. y.pool.plan.pending) (after_is s history i call fits made k.calls) ∙ idle_stays s.sizes x word x.calls.stage k refl
          rest))
    ]

-- a run in which process i has its transfer pending, of this age
pub record AgedRun (sizes : Sizes) (i n : ℕ) (t : CoreState) : Type 0 where
  pub past : List Turn
  pub history : List Entry
  pub run : IsRun sizes past history t
  pub way : (view_at t i).calls.way ≡ Calls
  pub pends : HasPending i t
  pub aged : Aged sizes.quantum n (view_at t i)

-- what a made turn of the process leads to
made_ages : (sizes : Sizes) (past : List Turn) (history : List Entry) (s : CoreState) (i n : ℕ) (call : Call) → i < sizes.processes
    → IsRun sizes past history s → is_made (Events i call) s ≡ true → Aged sizes.quantum n (turning_view (Events i call) s)
    → HasPending i (after_turn (Events i call) s)
    → AgedRun sizes i (n + length (entries_of (turn_answer (Events i call) s))) (after_turn (Events i call) s)
made_ages sizes past history s i n call li run made aged pends =
    let next = turns past history s (Events i call) run in
    let (goes, few) = every_run PendingMoves pending_moves sizes _ _ (after_turn (Events i call) s) next i li pends in
    let (ages, way) = every_run TurnsAge turns_age sizes past history s run i n call made aged goes pends in
    record { past = _; history = _; run = next; way = way; pends = pends; aged = ages }

either : (t : Bool) {u : Bool} → u ≡ t → (u ≡ true) ⊎ (u ≡ false)
either true e = inl e
either false e = inr e

-- one that isn't made leaves it
ignored_answer : (s : CoreState) (turn : Turn) → is_made turn s ≡ false → turn_answer turn s ≡ Ignored
ignored_answer s turn off = rw off refl

no_entry : (sizes : Sizes) (i n : ℕ) (t : CoreState) (answer : Happened) → answer ≡ Ignored → AgedRun sizes i n t
    → AgedRun sizes i (n + length (entries_of answer)) t
no_entry sizes i n t answer e r =
    record {
      past = r.past;
      history = r.history;
      run = r.run;
      way = r.way;
      pends = r.pends;
      aged = rw e
          (same sizes.quantum n (view_at t i).pool.plan.done _ r.aged);
    }
  where
    same : (quantum n done made : ℕ) → quantum * n + made ≤ done → quantum * (n + 0) + made ≤ done
    same quantum n done made aged = omega (arith, aged)

still_there : (sizes : Sizes) (i n : ℕ) (t u : CoreState) → u ≡ t → AgedRun sizes i n t → AgedRun sizes i n u
still_there sizes i n t u e r = rw e r

calls_no_transfer : (a b : Bool) (v : ProcessView) → v.calls.way ≡ Calls → (a && (may_use_transfers v.calls.way && b)) ≡ false
calls_no_transfer true b v e = rw e refl
calls_no_transfer false b v e = refl

from_none : (sizes : Sizes) (i n : ℕ) (t : CoreState) → AgedRun sizes i (0 + n) t → AgedRun sizes i n t
from_none sizes i n t r = let none : 0 + n ≡ n = omega arith in rw none at r

-- so in any turns
aged_run : (sizes : Sizes) (past : List Turn) (history : List Entry) (i : ℕ) (s : CoreState) (n : ℕ) (t : CoreState) → i < sizes.processes
    → IsRun sizes past history s → PendsSince i s n t → AgedRun sizes i n t
aged_run sizes past history i s n t li run (pends_first call idle pends) = elim (either (is_made (Events i call) s) refl) [
  | inl made ↦ from_none sizes i (length (entries_of (turn_answer (Events i call) s))) (after_turn (Events i call) s)
      (made_ages sizes past history s i 0 call li run made
      (every_run FirstTurnsAge first_turns_age sizes past history s run i call li made idle pends) pends)
  | inr off ↦ absurd (pends (ap (λ u. (view_at u i).pool.plan.pending) (ignored_state s (Events i call) off) ∙ idle))
]
aged_run sizes past history i s n t li run (pends_on m old call since pends) =
    let r = aged_run sizes past history i s m old li run since in
    elim (either (is_made (Events i call) old) refl) [
      | inl made ↦ made_ages sizes r.past r.history old i m call li r.run made
          (turning_ages sizes.quantum m (view_at old i) call (view_at old i).calls.stage refl
          (every_run ChoosingIsIdle choosing_is_idle sizes r.past r.history old r.run i li)
          (not_idle (view_at old i).pool.plan.pending r.pends) r.aged) pends
      | inr off ↦ no_entry sizes i m (after_turn (Events i call) old) (turn_answer (Events i call) old)
          (ignored_answer old (Events i call) off)
          (still_there sizes i m old (after_turn (Events i call) old) (ignored_state old (Events i call) off) r)
    ]
aged_run sizes past history i s n t li run (pends_still m old wish since) =
    let r = aged_run sizes past history i s m old li run since in
    still_there sizes i m old (after_turn (Moves i wish) old)
    (ignored_state old (Moves i wish) (calls_no_transfer (nat_lt i old.sizes.processes) _ (view_at old i) r.way)) r
aged_run sizes past history i s n t li run (pends_too m old turn since ne) =
    let r = aged_run sizes past history i s m old li run since in
    let same = other_view old turn i (is_made turn old) ne in
    record {
      past = _;
      history = _;
      run = turns r.past r.history old turn r.run;
      way = rw same r.way;
      pends = rw same r.pends;
      aged = rw same r.aged;
    }

-- while a transfer is pending its process makes fewer entries than a batch has blocks
pub transfers_are_short : TransfersAreShort
transfers_are_short sizes past history s run i n t li since =
    let r = aged_run sizes past history i s n t li run since in
    let (goes, few) = every_run PendingMoves pending_moves sizes r.past r.history t r.run i li r.pends in
    less_of_times sizes.quantum n sizes.length (below sizes.quantum n (view_at t i).pool.plan.done _ r.aged few)
  where
    below : (quantum n done made : ℕ) {all : ℕ} → quantum * n + made ≤ done → done < all → quantum * n < all
    below quantum n done made aged few = omega (arith, aged, few)
