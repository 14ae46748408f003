-- the steps of transfers are counted and bounded
use Rattle.std.proofs.Common.{◌≡◌, ◌≢◌, ℕ, ◌+◌, ◌<◌, ◌≤◌, ◌==◌, Bool, true, false, Option, None, Some, List, get_or, set, get_or-set_same}
use Rattle.std.proofs.Common.{refl, sym, ◌∙◌, ap, inl, inr, arith, subst}
use Rattle.std.specs.Prelude.{if◌then◌else◌, ◌&&◌, not}
use Rattle.std.proofs.lemmas.Bool.{cases_eq}
use Rattle.std.proofs.lemmas.Bool.Decides.{nat_tests}
use Rattle.word_layout.specs.Sizes.{Sizes, transfer_bound}
use Rattle.word_layout.specs.Names.{word_at}
use Rattle.word_layout.specs.declared.announced.Wish.{Wish}
use Rattle.word_layout.specs.declared.announced.Wish.TheVariants.{Take, Give}
use Rattle.pool_model.specs.declared.entry.Entry.{Entry}
use Rattle.transfer_machine.specs.Machine.{met_at}
use Rattle.pool_machine.specs.Pools.{opening_view, pool_met_at, view_begun}
use Rattle.transfer_machine.specs.Words.{met_word}
use Rattle.pool_machine.specs.declared.call.Call.{Call}
use Rattle.pool_machine.specs.declared.call.Call.TheVariants.{Allocate, Free, Read, Write, Search}
use Rattle.pool_machine.specs.declared.call.CallStage.{CallStage}
use Rattle.pool_machine.specs.declared.call.CallStage.TheVariants.{Between, Choosing, Moving, Own}
use Rattle.pool_machine.specs.declared.call.Way.{Way}
use Rattle.pool_machine.specs.declared.call.Way.TheVariants.{Alone}
use Rattle.pool_machine.specs.declared.view.ProcessView.{ProcessView}
use Rattle.transfer_machine.specs.declared.stage.NextStep.{NextStep}
use Rattle.transfer_machine.specs.declared.stage.NextStep.TheVariants.{Rest, Announce, LoadFinalState, LoadReply, Try}
use Rattle.transfer_machine.specs.Stages.{is_rest}
use Rattle.pool_machine.specs.Beginning.{due, begun_if_due, alone_begun, search_begun_by, call_begun}
use Rattle.pool_machine.specs.Steps.{call_met_at}
use Rattle.transfer_invariant.specs.Progress.{is_moving}
use Rattle.pool_invariant.specs.StepCount.{OverlayIsFew}
use Rattle.pool_invariant.specs.Holds.{PoolRuns}
use Rattle.pool_invariant.proofs.Ending.{step_left}
use Rattle.history_invariant.specs.Ledger.{Ledger}
use Rattle.call_invariant.specs.Uses.{UsesPool}
use Rattle.call_invariant.proofs.Uses.{calls_used, due_begins}
use Rattle.interleaving_core.specs.Moves.{CoreState, view_at, with_step, started_at, started}
use Rattle.transfer_schedule.specs.Numbers.{is_idle}
use Rattle.interleaving_core.specs.Runs.{Turn, Moves, Events, by_of, is_made, turning_view, after_turn}
use Rattle.interleaving_core.specs.Steps.{is_alone, is_busy, is_at_step, next_action, next_met}
use Rattle.interleaving_core.specs.TransferLaws.{rests, steps_made, moves_at, moves_transfer, is_step_of, StepsBounded, TransfersAreBounded}
use Rattle.interleaving_core.specs.TransferLaws.{StepsCount}
use Rattle.interleaving_core.proofs.Joins.{given, keeps}
use Rattle.interleaving_core.proofs.OwnPlans.{own_same}
use Rattle.interleaving_core.proofs.Runs.{RunFits, run_fits, turn_low, turn_meets, turn_busy}
use Rattle.interleaving_core.proofs.RunTurns.{others_leave, own_view}

-- in a transfer or at rest
moves_unless_rest : (s : NextStep) → is_rest s ≡ false → is_moving s ≡ true
moves_unless_rest s h = grind arith

still_at_rest : (s : NextStep) → is_rest s ≡ true → is_moving s ≡ false
still_at_rest s h = grind arith

-- a step that isn't rest isn't told to be
pub isnt_rest : (s : NextStep) → s ≢ Rest → is_rest s ≡ false
isnt_rest s h = grind arith

-- the steps of a process are bounded
most_of : (t : Bool) (steps bound : ℕ) → (t ≡ false → steps + 1 ≤ bound) → (t ≡ true → steps ≡ 0) → steps ≤ bound
most_of true steps bound left none = omega (arith, none refl)
most_of false steps bound left none = omega (arith, left refl)

-- a transfer that isn't at rest has made fewer steps than its bound
pub left_of : (sizes : Sizes) (v : ProcessView) → PoolRuns sizes v → OverlayIsFew sizes v.transfer → is_rest v.transfer.next ≡ false
    → v.pool.plan.done + 1 ≤ transfer_bound sizes
left_of sizes v runs few busy =
    let counted = runs.counted (moves_unless_rest v.transfer.next busy) in
    let left = step_left sizes v.transfer v.transfer.next runs.index few in
    omega arith

-- of each process of a run too
pub bounded : (s : CoreState) (history : List Entry) (i : ℕ) → RunFits s history → i < s.sizes.processes → StepsBounded s i
bounded s history i fits li =
    let (ghosts, h) = fits.meets in
    let v = view_at s i in
    let pool = keeps s.sizes (word_at s.sizes s.words) (view_at s) history ghosts i fits.shape li h in
    let few = (given s.sizes (word_at s.sizes s.words) (view_at s) history ghosts i li h).few in
    let left : is_rest v.transfer.next ≡ false → v.pool.plan.done + 1 ≤ transfer_bound s.sizes = left_of s.sizes v pool.runs few in
    let none : is_rest v.transfer.next ≡ true → v.pool.plan.done ≡ 0 = λ e. pool.runs.kept.none (still_at_rest v.transfer.next e) in
    record { most = most_of (is_rest v.transfer.next) v.pool.plan.done (transfer_bound s.sizes) left none; left = left; none = none }

-- no transfer of a run makes more steps than its bound
pub transfers_are_bounded : TransfersAreBounded
transfers_are_bounded sizes past history s i run li = bounded s history i (run_fits sizes past history s run) li

-- each step of a transfer is counted, but the last
pub step_counts : (sizes : Sizes) (v : ProcessView) (word : ℕ) (s : NextStep) → is_rest s ≡ false
    → is_rest (met_at sizes v.transfer word s).next ≡ false → (pool_met_at word v.pool s).plan.done ≡ v.pool.plan.done + 1
step_counts sizes v word Rest busy goes = grind arith
step_counts sizes v word Announce busy goes = refl
step_counts sizes v word (Try second step) busy goes = refl
step_counts sizes v word LoadFinalState busy goes = refl
step_counts sizes v word LoadReply busy goes = grind arith

-- so a step counts where it is one of the transfer, which the own step of a call is not
plus_none : (n : ℕ) → n ≡ n + 0
plus_none n = omega arith

stage_counts : (sizes : Sizes) (v : ProcessView) (word : ℕ) (stage : CallStage) → (moves_at stage ≡ true → is_rest v.transfer.next ≡ false)
    → is_rest (call_met_at sizes v word stage).transfer.next ≡ false
    → (call_met_at sizes v word stage).pool.plan.done ≡ v.pool.plan.done + (if moves_at stage then 1 else 0)
stage_counts sizes v word Between busy goes = plus_none v.pool.plan.done
stage_counts sizes v word Choosing busy goes = plus_none v.pool.plan.done
stage_counts sizes v word Moving busy goes = step_counts sizes v word v.transfer.next (busy refl) goes
stage_counts sizes v word Own busy goes = (own_same word v.pool v.calls.call).done ∙ plus_none v.pool.plan.done

next_counts : (sizes : Sizes) (v : ProcessView) (word : ℕ) (t : Bool) → is_alone v.calls.way ≡ t
    → (moves_transfer v ≡ true → is_rest v.transfer.next ≡ false) → is_rest (next_met sizes v word).transfer.next ≡ false
    → (next_met sizes v word).pool.plan.done ≡ v.pool.plan.done + (if moves_transfer v then 1 else 0)
next_counts sizes v word true alone busy goes =
    rw alone (step_counts sizes v word v.transfer.next (rw alone at busy refl) (rw alone at goes))
next_counts sizes v word false alone busy goes = rw alone (stage_counts sizes v word v.calls.stage (rw alone at busy) (rw alone at goes))

-- a process that makes a step of its transfer is in one
in_transfer : (sizes : Sizes) (i : ℕ) (v : ProcessView) (g : Ledger) (t : Bool) → is_alone v.calls.way ≡ t → UsesPool sizes i v g
    → is_busy v ≡ true → moves_transfer v ≡ true → is_rest v.transfer.next ≡ false
in_transfer sizes i v g true alone uses busy moves = not_true (is_rest v.transfer.next) (rw alone at busy)
  where
    not_true : (t : Bool) → not t ≡ true → t ≡ false
    not_true t h = grind arith
in_transfer sizes i v g false alone uses busy moves =
    let calls = calls_used sizes i v g v.calls.way (λ e. other v.calls.way alone e) uses in
    isnt_rest v.transfer.next (calls.stage.pending (at_moving v.calls.stage (rw alone at moves)))
  where
    other : (way : Way) → is_alone way ≡ false → way ≡ Alone → ⊥
    other way alone e = grind arith

    at_moving : (stage : CallStage) → moves_at stage ≡ true → stage ≡ Moving
    at_moving stage h = grind arith

turning_moves : (s : CoreState) (history : List Entry) (turn : Turn) → RunFits s history → is_made turn s ≡ true
    → moves_transfer (turning_view turn s) ≡ true → is_rest (turning_view turn s).transfer.next ≡ false
turning_moves s history turn fits made moves =
    let i = by_of turn in
    let v = turning_view turn s in
    let li = turn_low s turn made in
    let (ghosts, h) = turn_meets s history turn fits made li in
    let here : get_or (set s.views i v) i (opening_view s.sizes i) ≡ v = get_or-set_same s.views i v (opening_view s.sizes i)
    (rw fits.seats li) in
    let uses : UsesPool s.sizes i v (ghosts.ledgers i) = subst (λ (w : ProcessView). UsesPool s.sizes i w (ghosts.ledgers i)) here
    (h.pools i li) in
    in_transfer s.sizes i v (ghosts.ledgers i) (is_alone v.calls.way) refl uses (turn_busy s history turn fits made li) moves

-- what a turn begins has made no step
begun_steps : (wish : Wish) (v : ProcessView) → v.pool.plan.done ≡ 0 → (view_begun wish v).pool.plan.done ≡ v.pool.plan.done
begun_steps Take v none = sym none
begun_steps (Give head) v none = sym none

due_steps : (wish : Option Wish) (v : ProcessView) → ((w : Wish) → wish ≡ Some w → v.pool.plan.done ≡ 0)
    → (begun_if_due wish v).pool.plan.done ≡ v.pool.plan.done
due_steps None v none = refl
due_steps (Some wish) v none = begun_steps wish v (none wish refl)

call_steps : (call : Call) (v : ProcessView) → ((w : Wish) → due v.pool ≡ Some w → v.pool.plan.done ≡ 0)
    → (call_begun call v).pool.plan.done ≡ v.pool.plan.done
call_steps Allocate v none = due_steps (due v.pool) v none
call_steps (Free block) v none = due_steps (due v.pool) v none
call_steps (Read block index) v none = refl
call_steps (Write block index value) v none = refl
call_steps Search v none = search_steps (is_idle v.pool.plan.pending) v none
  where
    search_steps : (t : Bool) (v : ProcessView) → ((w : Wish) → due v.pool ≡ Some w → v.pool.plan.done ≡ 0)
        → (search_begun_by t v).pool.plan.done ≡ v.pool.plan.done
    search_steps true v none = due_steps (due v.pool) v none
    search_steps false v none = refl

-- a call that starts leaves how many steps a pending transfer has made
pub started_steps : (call : Call) (v : ProcessView) (stage : CallStage) → ((w : Wish) → due v.pool ≡ Some w → v.pool.plan.done ≡ 0)
    → (started_at stage call v).pool.plan.done ≡ v.pool.plan.done
started_steps call v Between none = call_steps call v none
started_steps call v Choosing none = due_steps (due v.pool) v none
started_steps call v Moving none = call_steps call v none
started_steps call v Own none = call_steps call v none

moving_steps : (wish : Wish) (v : ProcessView) (t : Bool) → (t ≡ true → v.pool.plan.done ≡ 0)
    → (if t then alone_begun wish v else v).pool.plan.done ≡ v.pool.plan.done
moving_steps wish v true none = begun_steps wish v (none refl)
moving_steps wish v false none = refl

calling_steps : (call : Call) (v : ProcessView) (t : Bool) → ((w : Wish) → due v.pool ≡ Some w → v.pool.plan.done ≡ 0)
    → (if t then v else started call v).pool.plan.done ≡ v.pool.plan.done
calling_steps call v true none = refl
calling_steps call v false none = started_steps call v v.calls.stage none

turning_steps : (s : CoreState) (history : List Entry) (turn : Turn) → RunFits s history → is_made turn s ≡ true
    → (turning_view turn s).pool.plan.done ≡ steps_made s (by_of turn)
turning_steps s history (Moves by wish) fits made =
    let none = (bounded s history by fits (turn_low s (Moves by wish) made)).none in
    moving_steps wish (view_at s by) (is_rest (view_at s by).transfer.next) none
turning_steps s history (Events by call) fits made =
    let v = view_at s by in
    let li = turn_low s (Events by call) made in
    let (ghosts, h) = fits.meets in
    let pool = keeps s.sizes (word_at s.sizes s.words) (view_at s) history ghosts by fits.shape li h in
    let none = (bounded s history by fits li).none in
    calling_steps call v (is_at_step v.calls.stage) (λ w e. none (ap is_rest (due_begins s.sizes v w pool e).0))

-- a turn of a process
made_counts : (s : CoreState) (history : List Entry) (turn : Turn) → RunFits s history → is_made turn s ≡ true
    → rests (with_step (by_of turn) (turning_view turn s) s) (by_of turn) ≡ false
    → steps_made (with_step (by_of turn) (turning_view turn s) s) (by_of turn) ≡ steps_made s
    (by_of turn) + (if moves_transfer (turning_view turn s) then 1 else 0)
made_counts s history turn fits made goes =
    let v = turning_view turn s in
    let word = met_word s.sizes s.words (next_action s.sizes v) in
    let own = own_view s (by_of turn) v (rw fits.seats (turn_low s turn made)) in
    let still : is_rest (next_met s.sizes v word).transfer.next ≡ false = sym (ap (λ w. is_rest w.transfer.next) own) ∙ goes in
    ap (λ w. w.pool.plan.done) own ∙ (next_counts s.sizes v word (is_alone v.calls.way) refl (turning_moves s history turn fits made) still
    ∙ ap (λ n. n + (if moves_transfer v then 1 else 0)) (turning_steps s history turn fits made))

own_turn_counts : (s : CoreState) (history : List Entry) (turn : Turn) (t : Bool) → RunFits s history → is_made turn s ≡ t
    → rests (if t then with_step (by_of turn) (turning_view turn s) s else s) (by_of turn) ≡ false
    → steps_made (if t then with_step (by_of turn) (turning_view turn s) s else s) (by_of turn) ≡ steps_made s
    (by_of turn) + (if t && moves_transfer (turning_view turn s) then 1 else 0)
own_turn_counts s history turn true fits made goes = made_counts s history turn fits made goes
own_turn_counts s history turn false fits made goes = plus_none (steps_made s (by_of turn))

is_same : (a b : ℕ) → a ≡ b → (a == b) ≡ true
is_same a b e = grind (arith, nat_tests)

is_other : (a b : ℕ) → a ≢ b → (a == b) ≡ false
is_other a b ne = grind (arith, nat_tests)

its_own_counts : (turn : Turn) (s : CoreState) (history : List Entry) → RunFits s history → rests (after_turn turn s) (by_of turn) ≡ false
    → steps_made (after_turn turn s) (by_of turn) ≡ steps_made s (by_of turn) + is_step_of (by_of turn) turn s
its_own_counts turn s history fits goes =
    let test = is_same (by_of turn) (by_of turn) refl in rw test (own_turn_counts s history turn (is_made turn s) fits refl goes)

-- a turn of a process counts one step of its transfer, any other turn none
pub turn_counts : (process : ℕ) (turn : Turn) (s : CoreState) (history : List Entry) → RunFits s history
    → rests (after_turn turn s) process ≡ false
    → steps_made (after_turn turn s) process ≡ steps_made s process + is_step_of process turn s
turn_counts process turn s history fits goes = elim (cases_eq (by_of turn) process) [
  | inl e ↦ subst (λ (p : ℕ). rests (after_turn turn s) p ≡ false → steps_made (after_turn turn s) p ≡ steps_made s p + is_step_of p turn s)
      e (its_own_counts turn s history fits) goes
  | inr ne ↦
      let test = is_other (by_of turn) process ne in
      let same : view_at (after_turn turn s) process ≡ view_at s process = others_leave s turn process (λ e. ne (sym e)) in
      rw test (ap (λ v. v.pool.plan.done) same ∙ plus_none (steps_made s process))
]

-- each step of a process's transfer counts one, unless it ends it, and no other turn counts
pub steps_count : StepsCount
steps_count sizes past history s turn process run low goes = turn_counts process turn s history (run_fits sizes past history s run) goes
