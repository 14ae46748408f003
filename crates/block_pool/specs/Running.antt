-- a call as it runs: the view of its process, told by the running parts, the call, and how many steps of the transfer it has made
use Rattle.std.specs.Prelude.{true, ◌≡◌, ℕ, ◌<◌, ◌==◌, if◌then◌else◌, Option, None, Some, length}
use Rattle.word_layout.specs.Sizes.{Sizes, most_blocks}
use Rattle.word_layout.specs.declared.announced.Wish.{Wish}
use Rattle.transfer_schedule.specs.Numbers.{after_steps, is_idle}
use Rattle.transfer_machine.specs.Machine.{begun}
use Rattle.transfer_machine.specs.declared.transfer.TransferView.{TransferView}
use Rattle.pool_machine.specs.Beginning.{newest}
use Rattle.pool_machine.specs.Pools.{pool_begun}
use Rattle.pool_machine.specs.declared.call.Call.{Call}
use Rattle.pool_machine.specs.declared.call.CallStage.{CallStage}
use Rattle.pool_machine.specs.declared.call.CallStage.TheVariants.{Moving, Own}
use Rattle.pool_machine.specs.declared.call.CallView.{CallView}
use Rattle.pool_machine.specs.declared.call.Way.TheVariants.{Calls}
use Rattle.pool_machine.specs.declared.view.PoolView.{PoolView}
use Rattle.pool_machine.specs.declared.view.ProcessView.{ProcessView}
use Rattle.pool_table.specs.declared.about.About.TheVariants.{InCall}
use Rattle.pool_table.specs.Turns.{turning}
use Rattle.pool_table.specs.Views.{SeatView}
use Rattle.pool_table.specs.Steps.{CanStep}
use Rattle.block_pool.specs.declared.process.Process.{Process}

-- the calls of a process in this call, which has made so many steps of the transfer
abbrev pub calling : CallStage → Call → ℕ → CallView
calling stage call n = record { stage = stage; call = Some call; steps = n; chosen = true; way = Calls }

-- the pool with so many steps of its transfer counted
abbrev pub counted : ℕ → PoolView → PoolView
counted n pool = record pool { plan = after_steps n pool.plan }

-- at a step of the transfer, after so many of them, which the running pool doesn't count yet
abbrev pub moving : Call → ℕ → Process → ProcessView
moving call n process =
    record { transfer = process.transfer; pool = counted n process.pool; calls = calling Moving call n }

-- the same, or at the own step where these were the most
abbrev pub stage_after : ℕ → ℕ → CallStage
stage_after most n = if n == most then Own else Moving

-- in a call that has made so many steps of the transfer, of so many at most
abbrev pub running : ℕ → Call → ℕ → Process → ProcessView
running most call n process =
    record { transfer = process.transfer; pool = counted n process.pool; calls = calling (stage_after most n) call n }

-- at the own step, after so many steps of the transfer, which the running pool counts
abbrev pub owning : Call → ℕ → Process → ProcessView
owning call n process = record { transfer = process.transfer; pool = process.pool; calls = calling Own call n }

-- at the beginning: at a step of the transfer, if one is pending
abbrev pub beginning : Call → Process → ProcessView
beginning call process = record {
  transfer = process.transfer;
  pool = process.pool;
  calls = calling (if is_idle process.pool.plan.pending then Own else Moving) call 0;
}

-- the transfer that is due can begin: each spare has its head, and the newest of three is a block
pub record CanBeginDue (pool : PoolView) : Type 0 where
  pub heads : length pool.heads ≡ pool.plan.spares
  pub fits : pool.plan.spares ≡ 3 → newest pool < most_blocks

-- a transfer with this wish is begun, if there is one
abbrev pub transfer_begun : Option Wish → TransferView → TransferView
transfer_begun None t = t
transfer_begun (Some wish) t = begun wish t

-- the private pool with the transfer begun, if there is one
abbrev pub pool_begun_by : Option Wish → PoolView → PoolView
pool_begun_by None pool = pool
pool_begun_by (Some wish) pool = pool_begun wish pool

-- the seat can make the next step of this call, and its process has this view there
pub record CanGo (sizes : Sizes) (call : Call) (w : ProcessView) (v : SeatView) : Type 0 where
  pub can : CanStep sizes (InCall call) v
  pub view : turning (InCall call) v.mind.view ≡ w

-- the next step of the call is one of the transfer, after so many
abbrev pub IsMoving : Sizes → Call → ℕ → Process → Type 0
IsMoving sizes call n process = CanGo sizes call (moving call n process) process.seat.view

-- it is one of the transfer, or the own one where these were the most
abbrev pub IsRunning : Sizes → ℕ → Call → ℕ → Process → Type 0
IsRunning sizes most call n process = CanGo sizes call (running most call n process) process.seat.view

-- it is the own one
abbrev pub IsOwning : Sizes → Call → ℕ → Process → Type 0
IsOwning sizes call n process = CanGo sizes call (owning call n process) process.seat.view
