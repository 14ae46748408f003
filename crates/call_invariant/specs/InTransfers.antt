-- what holds of a process that makes transfers alone, outside any call
use Rattle.std.specs.Prelude.{◌≡◌, ℕ, None}
use Rattle.word_layout.specs.Sizes.{Sizes}
use Rattle.pool_machine.specs.declared.call.CallStage.TheVariants.{Between}
use Rattle.pool_machine.specs.declared.call.Way.TheVariants.{Alone}
use Rattle.pool_machine.specs.declared.view.ProcessView.{ProcessView}
use Rattle.pool_invariant.specs.Holds.{PoolHolds}
use Rattle.history_invariant.specs.Ledger.{Ledger}
use Rattle.call_invariant.specs.InCalls.{NothingEntered}

-- the process is in no call and has entered nothing; its pool is as transfers alone leave it
pub record InTransfers (sizes : Sizes) (process : ℕ) (v : ProcessView) (ledger : Ledger) : Type 0 where
  pub way : v.calls.way ≡ Alone
  pub stage : v.calls.stage ≡ Between
  pub none : v.calls.call ≡ None
  pub pool : PoolHolds sizes process v
  pub nothing : NothingEntered sizes ledger
