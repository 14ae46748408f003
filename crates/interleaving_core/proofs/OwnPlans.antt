-- the own step of a call leaves the pending transfer of the plan, the steps made of it, and what the last take found
use Rattle.std.proofs.Common.{ℕ, Option, None, Some}
use Rattle.transfer_schedule.specs.Numbers.{Numbers}
use Rattle.transfer_schedule.proofs.Operations.{SameTransfer, same_transfer, took_same, gave_same}
use Rattle.pool_machine.specs.declared.call.Call.{Call}
use Rattle.pool_machine.specs.declared.call.Call.TheVariants.{Allocate, Free, Read, Write, Search}
use Rattle.pool_machine.specs.declared.view.PoolView.{PoolView}
use Rattle.pool_machine.specs.OwnSteps.{pool_own_met}
use Rattle.pool_machine.specs.Laws.{plan_after}
use Rattle.pool_machine.proofs.Plans.{own_plan}

plan_same : (call : Option Call) (x : Numbers) → SameTransfer x (plan_after call x)
plan_same None x = same_transfer x
plan_same (Some Allocate) x = took_same x
plan_same (Some (Free block)) x = gave_same x
plan_same (Some (Read block index)) x = same_transfer x
plan_same (Some (Write block index value)) x = same_transfer x
plan_same (Some Search) x = took_same x

-- an own step leaves the transfer of the plan
pub own_same : (word : ℕ) (pool : PoolView) (call : Option Call) → SameTransfer pool.plan (pool_own_met word pool call).plan
own_same word pool call = rw (own_plan word pool call) (plan_same call pool.plan)
