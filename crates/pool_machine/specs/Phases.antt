-- what a process is at
use Rattle.std.specs.Prelude.{Bool, true, false, ◌||◌, if◌then◌else◌, Option, None, Some}
use Rattle.transfer_machine.specs.Stages.{stage_of, is_rest}
use Rattle.pool_machine.specs.declared.call.CallStage.{CallStage}
use Rattle.pool_machine.specs.declared.call.CallStage.TheVariants as call
use Rattle.pool_machine.specs.declared.call.Way.{Way}
use Rattle.pool_machine.specs.declared.call.Way.TheVariants.{Fresh, Alone, Calls}
use Rattle.pool_machine.specs.declared.phase.Phase.{Phase}
use Rattle.pool_machine.specs.declared.phase.Phase.TheVariants as phase
use Rattle.transfer_machine.specs.declared.stage.Stage.{Stage}
use Rattle.pool_machine.specs.declared.view.ProcessView.{ProcessView}

-- the process has begun a call
abbrev pub has_called : Way → Bool
has_called Fresh = false
has_called Alone = false
has_called Calls = true

-- what a process is at, by its stage in a call: a transfer that is begun outside any call moves, that of a call waits between two
abbrev pub phase_at : ProcessView → CallStage → Phase
phase_at v call.Between = if is_rest v.transfer.next || has_called v.calls.way then phase.Between else phase.Moving (stage_of v.transfer)
phase_at v call.Choosing = phase.Between
phase_at v call.Moving = phase.Moving (stage_of v.transfer)
phase_at v call.Own = phase.Own

-- what a process is at
abbrev pub phase_of : ProcessView → Phase
phase_of v = phase_at v v.calls.stage

-- where a transfer stands that isn't moving in this phase
abbrev pub waiting_in : ProcessView → Phase → Option Stage
waiting_in v phase.Between = Some (stage_of v.transfer)
waiting_in v (phase.Moving stage) = None
waiting_in v phase.Own = Some (stage_of v.transfer)

-- where the pending transfer stands while the process is between two calls or at the own step of one
abbrev pub waiting_of : ProcessView → Option Stage
waiting_of v = if is_rest v.transfer.next then None else waiting_in v (phase_of v)
