-- every step keeps the invariant, and can be made
use Rattle.std.proofs.Common.{◌≡◌, ◌≢◌, ℕ, ◌<◌, Bool, true, false, List, ◌++◌, refl, sym, arith}
use Rattle.word_layout.specs.Sizes.{Sizes, IsShape}
use Rattle.pool_model.specs.declared.entry.Entry.{Entry}
use Rattle.transfer_machine.specs.Machine.{action_of, CanAct, CanMeet}
use Rattle.pool_machine.specs.Pools.{view_met, CanCount, CanMeetPool}
use Rattle.transfer_machine.specs.Words.{name_of}
use Rattle.pool_machine.specs.declared.call.CallStage.TheVariants.{Between, Choosing, Moving, Own}
use Rattle.pool_machine.specs.declared.call.Way.TheVariants.{Alone}
use Rattle.pool_machine.specs.declared.view.ProcessView.{ProcessView}
use Rattle.transfer_machine.specs.declared.stage.NextStep.TheVariants.{Rest}
use Rattle.transfer_invariant.specs.Memory.{Words, Acted}
use Rattle.batch_invariant.specs.Batches.{ProcessViews, MovedProcess}
use Rattle.pool_machine.specs.Ready.{CanActCall, CanMeetCall, CanActCallAt, CanMeetCallAt}
use Rattle.pool_machine.specs.Steps.{call_action, call_action_at, call_met, call_met_at, call_answer, call_answer_at}
use Rattle.std.specs.Prelude.{if◌then◌else◌, not}
use Rattle.std.proofs.lemmas.List.{append-nil}
use Rattle.transfer_machine.specs.Stages.{kind_of, is_rest}
use Rattle.pool_machine.specs.declared.call.Way.{Way}
use Rattle.pool_machine.specs.declared.call.CallStage.{CallStage}
use Rattle.transfer_machine.specs.declared.stage.NextStep.{NextStep}
use Rattle.stack_invariant.proofs.Follows.{can_be_made}
use Rattle.pool_machine.specs.declared.event.Happened.TheVariants.{Step}
use Rattle.call_invariant.proofs.Standing.{shape_fits, some_quantum}
use Rattle.call_invariant.proofs.Uses.{steps_can_count, replies_can_end, moves_can_be_made, calls_used}
use Rattle.interleaving_core.proofs.Joins.{transfers, supplied, keeps, given, scheduled}
use Rattle.interleaving_core.proofs.Standing.{isnt_alone}
use Rattle.interleaving_core.proofs.TransfersMade.{alone_step_holds, call_step_holds}
use Rattle.interleaving_core.proofs.OwnSteps.{own_step_holds}
use Rattle.interleaving_core.proofs.OwnAllowed.{own_step_allowed}
use Rattle.interleaving_core.specs.Invariant.{Ghosts, Meets, Holds}
use Rattle.interleaving_core.specs.Runs.{entries_of}
use Rattle.interleaving_core.specs.Steps.{is_alone, is_busy, is_at_step, next_action, next_met, next_answer}

-- ways and stages
pub is_alone_way : (way : Way) → is_alone way ≡ true → way ≡ Alone
is_alone_way way e = grind arith

rest_not : (s : NextStep) → not (is_rest s) ≡ true → s ≢ Rest
rest_not s e is = grind arith

outside : false ≡ true → ⊥
outside e = grind arith

-- the step of a call, by its stage
call_stage_holds : (sizes : Sizes) (words new : Words) (views after : ProcessViews) (history : List Entry) (ghosts : Ghosts) (i : ℕ)
    (stage : CallStage)
    → IsShape sizes → i < sizes.processes → Holds sizes words views history ghosts → (views i).calls.way ≢ Alone
    → (views i).calls.stage ≡ stage → is_at_step stage ≡ true
    → Acted sizes (call_action_at sizes (views i) stage) words new
    → MovedProcess i (call_met_at sizes (views i) (words (name_of (call_action_at sizes (views i) stage))) stage) views after
    → Meets sizes new after
    (history ++ entries_of (call_answer_at (views i) (words (name_of (call_action_at sizes (views i) stage))) stage))
call_stage_holds sizes words new views after history ghosts i Between shape li h calls e busy acted moved = absurd (outside busy)
call_stage_holds sizes words new views after history ghosts i Choosing shape li h calls e busy acted moved = absurd (outside busy)
call_stage_holds sizes words new views after history ghosts i Moving shape li h calls e busy acted moved =
    rw (append-nil history) (call_step_holds sizes words new views after history ghosts i shape li h calls e acted moved)
call_stage_holds sizes words new views after history ghosts i Own shape li h calls e busy acted moved =
    own_step_holds sizes words new views after history ghosts i shape li h calls e acted moved

-- the step of a process, by its way
way_holds : (sizes : Sizes) (words new : Words) (views after : ProcessViews) (history : List Entry) (ghosts : Ghosts) (i : ℕ) (t : Bool)
    → IsShape sizes → i < sizes.processes → Holds sizes words views history ghosts → is_alone (views i).calls.way ≡ t
    → (t ≡ false → is_at_step (views i).calls.stage ≡ true)
    → Acted sizes (if t then action_of sizes (views i).transfer else call_action sizes (views i)) words new
    → MovedProcess i (if t then view_met sizes (views i)
    (words (name_of (if t then action_of sizes (views i).transfer else call_action sizes (views i)))) else call_met sizes (views i)
    (words (name_of (if t then action_of sizes (views i).transfer else call_action sizes (views i))))) views after
    → Meets sizes new after
    (history ++ entries_of
    (if t then Step (kind_of (views i).transfer.next) else call_answer (views i)
    (words (name_of (if t then action_of sizes (views i).transfer else call_action sizes (views i))))))
way_holds sizes words new views after history ghosts i true shape li h alone busy acted moved =
    rw (append-nil history)
    (alone_step_holds sizes words new views after history ghosts i shape li h (is_alone_way (views i).calls.way alone) acted moved)
way_holds sizes words new views after history ghosts i false shape li h alone busy acted moved =
    call_stage_holds sizes words new views after history ghosts i (views i).calls.stage shape li h (isnt_alone (views i).calls.way alone)
    refl (busy refl) acted moved

-- what a process with a next step is at
pub in_its_call : (v : ProcessView) (t : Bool) → is_alone v.calls.way ≡ t → is_busy v ≡ true → t ≡ false → is_at_step v.calls.stage ≡ true
in_its_call v true alone busy e = absurd (outside (sym e))
in_its_call v false alone busy e = rw alone at busy

in_its_transfer : (v : ProcessView) → is_busy v ≡ true → is_alone v.calls.way ≡ true → v.transfer.next ≢ Rest
in_its_transfer v busy alone = rest_not v.transfer.next (rw alone at busy)

-- a process that has a next step makes it
pub step_holds : (sizes : Sizes) (words new : Words) (views after : ProcessViews) (history : List Entry) (i : ℕ) → IsShape sizes
    → i < sizes.processes → Meets sizes words views history → is_busy (views i) ≡ true
    → Acted sizes (next_action sizes (views i)) words new
    → MovedProcess i (next_met sizes (views i) (words (name_of (next_action sizes (views i))))) views after
    → Meets sizes new after (history ++ entries_of (next_answer (views i) (words (name_of (next_action sizes (views i))))))
step_holds sizes words new views after history i shape li (ghosts, h) busy acted moved =
    way_holds sizes words new views after history ghosts i (is_alone (views i).calls.way) shape li h refl
    (in_its_call (views i) (is_alone (views i).calls.way) refl busy) acted moved

-- the next step of a process can be made: that of a transfer alone, or that of a call
pub record StepAllowed (sizes : Sizes) (words : Words) (v : ProcessView) : Type 0 where
  pub busy : is_alone v.calls.way ≡ true → v.transfer.next ≢ Rest
  pub act : is_alone v.calls.way ≡ true → CanAct sizes v.transfer
  pub meet : is_alone v.calls.way ≡ true → CanMeet sizes v.transfer (words (name_of (action_of sizes v.transfer)))
  pub count : is_alone v.calls.way ≡ true → CanCount v.pool
  pub end : is_alone v.calls.way ≡ true → CanMeetPool (words (name_of (action_of sizes v.transfer))) v.pool v.transfer.next
  pub call_act : is_alone v.calls.way ≡ false → CanActCall sizes v
  pub call_meet : is_alone v.calls.way ≡ false → CanMeetCall sizes v (words (name_of (call_action sizes v)))

-- the step of a transfer
transfer_allowed : (sizes : Sizes) (words : Words) (views : ProcessViews) (history : List Entry) (ghosts : Ghosts) (i : ℕ) → IsShape sizes
    → i < sizes.processes → Holds sizes words views history ghosts
    → CanAct sizes (views i).transfer × CanMeet sizes (views i).transfer (words (name_of (action_of sizes (views i).transfer)))
transfer_allowed sizes words views history ghosts i shape li h =
    can_be_made sizes words (transfers views) ghosts.states i shape li h.stack (supplied sizes words views history ghosts i shape li h)
    (λ o lo. (keeps sizes words views history ghosts o shape lo h).runs.age.most)

-- the step of a call, by its stage
call_allowed : (sizes : Sizes) (words : Words) (views : ProcessViews) (history : List Entry) (ghosts : Ghosts) (i : ℕ) (stage : CallStage)
    → IsShape sizes → i < sizes.processes → Holds sizes words views history ghosts → (views i).calls.way ≢ Alone
    → (views i).calls.stage ≡ stage
    → CanActCallAt sizes (views i) stage × CanMeetCallAt sizes (views i) (words (name_of (call_action_at sizes (views i) stage))) stage
call_allowed sizes words views history ghosts i Between shape li h calls e = (tt, tt)
call_allowed sizes words views history ghosts i Choosing shape li h calls e = (tt, tt)
call_allowed sizes words views history ghosts i Moving shape li h calls e =
    let v = views i in
    let (act, meet) = transfer_allowed sizes words views history ghosts i shape li h in
    moves_can_be_made sizes i v (words (name_of (action_of sizes v.transfer))) (ghosts.ledgers i)
    (calls_used sizes i v (ghosts.ledgers i) v.calls.way calls (h.pools i li)) (scheduled sizes words views history ghosts i shape li h)
    e
    (given sizes words views history ghosts i li h) act meet
call_allowed sizes words views history ghosts i Own shape li h calls e =
    own_step_allowed sizes words views history ghosts i shape li h calls e

-- the next step of a busy process is in the ranges of its table
pub step_allowed : (sizes : Sizes) (words : Words) (views : ProcessViews) (history : List Entry) (i : ℕ) → IsShape sizes
    → i < sizes.processes → Meets sizes words views history → is_busy (views i) ≡ true → StepAllowed sizes words (views i)
step_allowed sizes words views history i shape li (ghosts, h) busy =
    let v = views i in
    let word = words (name_of (action_of sizes v.transfer)) in
    let (act, meet) = transfer_allowed sizes words views history ghosts i shape li h in
    let kept = keeps sizes words views history ghosts i shape li h in
    let give = given sizes words views history ghosts i li h in
    let quantum = some_quantum sizes (shape_fits sizes shape) in
    record {
      busy = in_its_transfer v busy;
      act = λ alone. act;
      meet = λ alone. meet;
      count = λ alone. steps_can_count sizes v quantum kept give.few (in_its_transfer v busy alone);
      end = λ alone. replies_can_end sizes v word kept give.answers;
      call_act = λ calls. (call_allowed sizes words views history ghosts i v.calls.stage shape li h (isnt_alone v.calls.way calls) refl).0;
      call_meet = λ calls. (call_allowed sizes words views history ghosts i v.calls.stage shape li h (isnt_alone v.calls.way calls) refl).1;
    }
