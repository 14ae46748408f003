-- what holds of every process, whichever way it uses its pool
use Rattle.std.specs.Prelude.{◌≡◌, ℕ, length}
use Rattle.word_layout.specs.Sizes.{Sizes}
use Rattle.transfer_schedule.specs.Table.{InTable}
use Rattle.pool_machine.specs.declared.call.Way.{Way}
use Rattle.pool_machine.specs.declared.call.Way.TheVariants.{Fresh, Alone, Calls}
use Rattle.pool_machine.specs.declared.view.ProcessView.{ProcessView}
use Rattle.pool_invariant.specs.Holds.{PoolRuns}
use Rattle.history_invariant.specs.Ledger.{Ledger}
use Rattle.call_invariant.specs.InCalls.{InCalls}
use Rattle.call_invariant.specs.InTransfers.{InTransfers}

-- what holds of a process, by the way in which it has used its pool
abbrev pub UsesPoolBy : Way → Sizes → ℕ → ProcessView → Ledger → Type 0
UsesPoolBy Fresh sizes process v ledger = InCalls sizes process v ledger
UsesPoolBy Alone sizes process v ledger = InTransfers sizes process v ledger
UsesPoolBy Calls sizes process v ledger = InCalls sizes process v ledger

-- the same of the way that its view says
abbrev pub UsesPool : Sizes → ℕ → ProcessView → Ledger → Type 0
UsesPool sizes process v ledger = UsesPoolBy v.calls.way sizes process v ledger

-- what a process keeps whichever way it uses its pool: each spare has its head, and the plan is within the table of spares
pub record PoolKeeps (sizes : Sizes) (v : ProcessView) : Type 0 where
  pub runs : PoolRuns sizes v
  pub heads : length v.pool.heads ≡ v.pool.plan.spares
  pub table : InTable v.pool.plan
