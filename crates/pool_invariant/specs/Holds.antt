-- the pool's part of the invariant: its facts, gathered, all of one process
use Rattle.std.specs.Prelude.{ℕ}
use Rattle.word_layout.specs.Sizes.{Sizes}
use Rattle.pool_machine.specs.declared.view.PoolView.{PoolView}
use Rattle.pool_machine.specs.declared.view.ProcessView.{ProcessView}
use Rattle.pool_invariant.specs.Stages.{IndexFits}
use Rattle.pool_invariant.specs.StepCount.{StepsCounted}
use Rattle.pool_invariant.specs.Kept.{PoolKept, SparesKept, KeptAlone, AgeFits}

-- what holds whatever way the process uses its pool: what it keeps of the pending transfer, and how far that is
pub record PoolRuns (sizes : Sizes) (v : ProcessView) : Type 0 where
  pub kept : PoolKept sizes v
  pub counted : StepsCounted sizes v
  pub index : IndexFits sizes v.transfer
  pub age : AgeFits sizes v.transfer

-- what holds of a process that makes transfers alone: its spares, and its current list, which stays as it was
pub record PoolAlone (sizes : Sizes) (process : ℕ) (pool : PoolView) : Type 0 where
  pub spares : SparesKept pool
  pub full : KeptAlone sizes process pool

-- what a process that makes transfers alone keeps for its pool, and how far its transfer is
pub record PoolHolds (sizes : Sizes) (process : ℕ) (v : ProcessView) : Type 0 where
  pub runs : PoolRuns sizes v
  pub alone : PoolAlone sizes process v.pool
