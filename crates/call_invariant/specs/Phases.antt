-- where a process stands in the schedule
use Rattle.std.specs.Prelude.{ℕ, Bool, true, false, not, ◌&&◌, Option, None, Some}
use Rattle.transfer_schedule.specs.Account.{CallPhase}
use Rattle.transfer_schedule.specs.Account as schedule
use Rattle.pool_machine.specs.declared.call.Call.{Call}
use Rattle.pool_machine.specs.declared.call.Call.TheVariants.{Allocate, Free, Read, Write, Search}
use Rattle.pool_machine.specs.declared.call.CallStage.{CallStage}
use Rattle.pool_machine.specs.declared.call.CallStage.TheVariants.{Between, Choosing, Moving, Own}
use Rattle.pool_machine.specs.declared.call.CallView.{CallView}
use Rattle.pool_machine.specs.declared.view.ProcessView.{ProcessView}
use Rattle.pool_machine.specs.Steps.{is_paced}

-- an allocate or a free, which changes the pool
abbrev pub changes_pool : Option Call → Bool
changes_pool None = false
changes_pool (Some Allocate) = true
changes_pool (Some (Free block)) = true
changes_pool (Some (Read block index)) = false
changes_pool (Some (Write block index value)) = false
changes_pool (Some Search) = true

-- the phase before the own step of a call: the schedule knows no call that leaves the pool as it is
abbrev pub own_phase : Option Call → CallPhase
own_phase None = schedule.Between
own_phase (Some Allocate) = schedule.Own
own_phase (Some (Free block)) = schedule.Own
own_phase (Some (Read block index)) = schedule.Between
own_phase (Some (Write block index value)) = schedule.Between
own_phase (Some Search) = schedule.Sought

-- whether a call gets a block: an allocate or a search
abbrev pub is_getting : Option Call → Bool
is_getting None = false
is_getting (Some Allocate) = true
is_getting (Some (Free block)) = false
is_getting (Some (Read block index)) = false
is_getting (Some (Write block index value)) = false
is_getting (Some Search) = true

-- the phase at the transfer steps of a call: a search knows whether it has chosen, any other counts its steps
abbrev pub moving_phase : Bool → Bool → ℕ → CallPhase
moving_phase true chosen steps = schedule.Moving steps
moving_phase false chosen steps = schedule.Seeking chosen

-- the phase at a stage of the present call
abbrev pub call_phase_at : CallView → CallStage → CallPhase
call_phase_at calls Between = schedule.Between
call_phase_at calls Choosing = schedule.Choosing
call_phase_at calls Moving = moving_phase (is_paced calls.call) calls.chosen calls.steps
call_phase_at calls Own = own_phase calls.call

-- whether a call may still begin a transfer: a search that hasn't chosen
abbrev pub may_choose_at : CallView → CallStage → Bool
may_choose_at calls Between = false
may_choose_at calls Choosing = true
may_choose_at calls Moving = not (is_paced calls.call) && not calls.chosen
may_choose_at calls Own = false

-- the phase of a process
abbrev pub call_phase : ProcessView → CallPhase
call_phase v = call_phase_at v.calls v.calls.stage
