-- the next step of a process, in a transfer alone or in a call
use Rattle.std.specs.Prelude.{ℕ, Bool, true, false, not, if◌then◌else◌}
use Rattle.word_layout.specs.Sizes.{Sizes}
use Rattle.transfer_machine.specs.Machine.{action_of}
use Rattle.pool_machine.specs.Pools.{view_met}
use Rattle.transfer_machine.specs.Stages.{kind_of, is_rest}
use Rattle.transfer_machine.specs.declared.action.Action.{Action}
use Rattle.pool_machine.specs.declared.call.CallStage.{CallStage}
use Rattle.pool_machine.specs.declared.call.CallStage.TheVariants.{Between, Choosing, Moving, Own}
use Rattle.pool_machine.specs.declared.call.Way.{Way}
use Rattle.pool_machine.specs.declared.call.Way.TheVariants.{Fresh, Alone, Calls}
use Rattle.transfer_machine.specs.declared.kind.Kind.{Kind}
use Rattle.pool_machine.specs.declared.view.ProcessView.{ProcessView}
use Rattle.pool_machine.specs.OwnSteps.{own_kind}
use Rattle.pool_machine.specs.Steps.{call_action, call_met, call_answer}
use Rattle.pool_machine.specs.declared.event.Happened.{Happened}
use Rattle.pool_machine.specs.declared.event.Happened.TheVariants.{Step}

-- whether a process makes transfers alone, outside any call
abbrev pub is_alone : Way → Bool
is_alone Fresh = false
is_alone Alone = true
is_alone Calls = false

-- whether it is in a call and has begun its next step: a search that is to choose has not
abbrev pub is_at_step : CallStage → Bool
is_at_step Between = false
is_at_step Choosing = false
is_at_step Moving = true
is_at_step Own = true

-- whether it has a next step: it is in a transfer alone, or in a call
abbrev pub is_busy : ProcessView → Bool
is_busy v = if is_alone v.calls.way then not (is_rest v.transfer.next) else is_at_step v.calls.stage

-- what a process does next, and to which word
abbrev pub next_action : Sizes → ProcessView → Action
next_action sizes v = if is_alone v.calls.way then action_of sizes v.transfer else call_action sizes v

-- its view after that step met this word
abbrev pub next_met : Sizes → ProcessView → ℕ → ProcessView
next_met sizes v word = if is_alone v.calls.way then view_met sizes v word else call_met sizes v word

-- what happened in it
abbrev pub next_answer : ProcessView → ℕ → Happened
next_answer v word = if is_alone v.calls.way then Step (kind_of v.transfer.next) else call_answer v word

-- the kind of a step at that stage of a call
abbrev pub call_kind_at : ProcessView → CallStage → Kind
call_kind_at v Between = kind_of v.transfer.next
call_kind_at v Choosing = kind_of v.transfer.next
call_kind_at v Moving = kind_of v.transfer.next
call_kind_at v Own = own_kind v

-- its kind
abbrev pub next_kind : ProcessView → Kind
next_kind v = if is_alone v.calls.way then kind_of v.transfer.next else call_kind_at v v.calls.stage
