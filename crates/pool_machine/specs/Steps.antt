-- one step of a call: of the pending transfer until a quantum of them is made or the transfer ends, then the own one; a search runs
-- whole transfers
use Rattle.std.specs.Prelude.{ℕ, ◌+◌, ◌==◌, ◌||◌, Bool, true, false, if◌then◌else◌, Option, None, Some}
use Rattle.word_layout.specs.Sizes.{Sizes}
use Rattle.word_layout.specs.declared.name.WordName.TheVariants.{State}
use Rattle.transfer_machine.specs.Machine.{action_of}
use Rattle.pool_machine.specs.Pools.{view_met}
use Rattle.transfer_machine.specs.Stages.{is_rest}
use Rattle.transfer_machine.specs.Stages.{kind_of}
use Rattle.transfer_machine.specs.declared.action.Action.{Action}
use Rattle.transfer_machine.specs.declared.action.Action.TheVariants.{Load}
use Rattle.transfer_machine.specs.declared.kind.Kind.{Kind}
use Rattle.transfer_machine.specs.declared.stage.NextStep.{NextStep}
use Rattle.pool_machine.specs.declared.call.Call.{Call}
use Rattle.pool_machine.specs.declared.call.Call.TheVariants.{Allocate, Free, Read, Write, Search}
use Rattle.pool_machine.specs.declared.call.CallStage.{CallStage}
use Rattle.pool_machine.specs.declared.call.CallStage.TheVariants.{Between, Choosing, Moving, Own}
use Rattle.pool_machine.specs.declared.view.ProcessView.{ProcessView}
use Rattle.pool_machine.specs.declared.answer.OwnAnswer.{OwnAnswer}
use Rattle.pool_machine.specs.declared.answer.OwnAnswer.TheVariants as answer
use Rattle.pool_machine.specs.declared.event.Happened.{Happened}
use Rattle.pool_machine.specs.declared.event.Happened.TheVariants.{Step, Ended, Loaded, Stored, Ignored}
use Rattle.pool_machine.specs.OwnSteps.{own_action, own_met, own_answer, own_kind}

-- what a process does next at that stage of its call, and to which word
abbrev pub call_action_at : Sizes → ProcessView → CallStage → Action
call_action_at sizes v Between = Load State
call_action_at sizes v Choosing = Load State
call_action_at sizes v Moving = action_of sizes v.transfer
call_action_at sizes v Own = own_action v

-- what a process does next in its call, and to which word
abbrev pub call_action : Sizes → ProcessView → Action
call_action sizes v = call_action_at sizes v v.calls.stage

-- where a call stands that has made so many steps of its transfer
abbrev pub after_move : ℕ → ℕ → NextStep → CallStage
after_move quantum steps next = if is_rest next || (steps == quantum) then Own else Moving

-- where a search stands after one more step of its transfer: as that ends it is to choose, or, where it has chosen, at its own step
abbrev pub after_search_move : Bool → NextStep → CallStage
after_search_move chosen next = if is_rest next then (if chosen then Own else Choosing) else Moving

-- whether a call makes at most a quantum of steps of a transfer: all but a search do
abbrev pub is_paced : Option Call → Bool
is_paced None = true
is_paced (Some Allocate) = true
is_paced (Some (Free block)) = true
is_paced (Some (Read block index)) = true
is_paced (Some (Write block index value)) = true
is_paced (Some Search) = false

-- where any call stands after one more step of its transfer
abbrev pub stage_after : Bool → Bool → ℕ → ℕ → NextStep → CallStage
stage_after true chosen quantum steps next = after_move quantum (steps + 1) next
stage_after false chosen quantum steps next = after_search_move chosen next

-- how many steps it then counts
abbrev pub steps_after : Bool → ℕ → ℕ
steps_after true steps = steps + 1
steps_after false steps = steps

-- the call has made one step more of its transfer
abbrev pub move_counted : Sizes → ProcessView → ProcessView
move_counted sizes v =
    let paced = is_paced v.calls.call in
    record v {
      calls = record v.calls {
        stage = stage_after paced v.calls.chosen sizes.quantum v.calls.steps v.transfer.next;
        steps = steps_after paced v.calls.steps;
      };
    }

-- the view after its next step at that stage met this word
abbrev pub call_met_at : Sizes → ProcessView → ℕ → CallStage → ProcessView
call_met_at sizes v word Between = v
call_met_at sizes v word Choosing = v
call_met_at sizes v word Moving = move_counted sizes (view_met sizes v word)
call_met_at sizes v word Own = own_met v word

-- the view after its next step met this word
abbrev pub call_met : Sizes → ProcessView → ℕ → ProcessView
call_met sizes v word = call_met_at sizes v word v.calls.stage

-- what happened where the own step of this kind answered so
abbrev pub happened : Kind → OwnAnswer → Happened
happened kind (answer.Recorded entry) = Ended kind entry
happened kind (answer.Loaded word) = Loaded word
happened kind answer.Stored = Stored

-- what happened in the next step at that stage, where it met this word
abbrev pub call_answer_at : ProcessView → ℕ → CallStage → Happened
call_answer_at v word Between = Ignored
call_answer_at v word Choosing = Ignored
call_answer_at v word Moving = Step (kind_of v.transfer.next)
call_answer_at v word Own = happened (own_kind v) (own_answer v word)

-- what happened in the next step, where it met this word
abbrev pub call_answer : ProcessView → ℕ → Happened
call_answer v word = call_answer_at v word v.calls.stage
