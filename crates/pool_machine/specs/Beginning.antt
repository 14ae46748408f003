-- what a process knows once it has begun a call
use Rattle.std.specs.Prelude.{ℕ, ◌-◌, Bool, true, false, if◌then◌else◌, Option, None, Some, length, slice_index}
use Rattle.word_layout.specs.declared.announced.Wish.{Wish}
use Rattle.word_layout.specs.declared.announced.Wish.TheVariants.{Take, Give}
use Rattle.transfer_schedule.specs.Numbers as schedule
use Rattle.transfer_schedule.specs.declared.pending.Pending.{Pending}
use Rattle.transfer_schedule.specs.declared.pending.Pending.TheVariants.{Idle, Taking, Giving}
use Rattle.pool_machine.specs.Pools.{view_begun}
use Rattle.pool_machine.specs.declared.call.Call.{Call}
use Rattle.pool_machine.specs.declared.call.Call.TheVariants.{Allocate, Free, Read, Write, Search}
use Rattle.pool_machine.specs.declared.call.CallStage.{CallStage}
use Rattle.pool_machine.specs.declared.call.CallStage.TheVariants.{Moving, Own}
use Rattle.pool_machine.specs.declared.call.Way.TheVariants.{Alone, Calls}
use Rattle.pool_machine.specs.declared.view.PoolView.{PoolView}
use Rattle.pool_machine.specs.declared.view.ProcessView.{ProcessView}

-- the head of the newest spare
abbrev pub newest : PoolView → ℕ
newest pool = slice_index pool.heads (length pool.heads - 1)

-- the wish of a transfer that the plan begins: a give is one of the newest spare
abbrev pub wish_for : PoolView → Pending → Option Wish
wish_for pool Idle = None
wish_for pool Taking = Some Take
wish_for pool Giving = Some (Give (newest pool))

-- the transfer that is due as a call begins, by the plan
abbrev pub due : PoolView → Option Wish
due pool = wish_for pool (schedule.due pool.plan)

-- a transfer is begun where one is due
abbrev pub begun_if_due : Option Wish → ProcessView → ProcessView
begun_if_due None v = v
begun_if_due (Some wish) v = view_begun wish v

-- the view with the transfer that is due begun
abbrev pub before_call : ProcessView → ProcessView
before_call v = begun_if_due (due v.pool) v

-- where an allocate or a free stands as it begins: at the steps of the pending transfer, if any
abbrev pub first_stage : ProcessView → CallStage
first_stage v = if schedule.is_idle v.pool.plan.pending then Own else Moving

-- a call begins at that stage; `chosen` says whether it begins no transfer later
abbrev pub entered_with : Bool → Call → CallStage → ProcessView → ProcessView
entered_with chosen call stage v =
    record v { calls = record { stage = stage; call = Some call; steps = 0; chosen = chosen; way = Calls } }

-- so does every call but a search that meets a transfer: what was due began with it
abbrev pub entered : Call → CallStage → ProcessView → ProcessView
entered call stage v = entered_with true call stage v

-- a search with nothing pending chooses: it begins the transfer that is due, if any
abbrev pub search_chosen : ProcessView → ProcessView
search_chosen v = entered Search (first_stage (before_call v)) (before_call v)

-- a search begins, by whether nothing is pending: else it first makes the steps of the transfer that it met
abbrev pub search_begun_by : Bool → ProcessView → ProcessView
search_begun_by true v = search_chosen v
search_begun_by false v = entered_with false Search Moving v

-- a call begins: an allocate or a free with the transfer that is due, a read or a write at its own step at once, a search with the
-- transfer that it met, or chooses
abbrev pub call_begun : Call → ProcessView → ProcessView
call_begun Allocate v = entered Allocate (first_stage (before_call v)) (before_call v)
call_begun (Free block) v = entered (Free block) (first_stage (before_call v)) (before_call v)
call_begun (Read block index) v = entered (Read block index) Own v
call_begun (Write block index value) v = entered (Write block index value) Own v
call_begun Search v = search_begun_by (schedule.is_idle v.pool.plan.pending) v

-- a transfer begins alone, outside any call
abbrev pub alone_begun : Wish → ProcessView → ProcessView
alone_begun wish v = record (view_begun wish v) { calls = record v.calls { way = Alone } }
