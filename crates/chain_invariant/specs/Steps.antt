-- what the own steps of a process make of its current list and its spares
use Rattle.std.specs.Prelude.{◌≡◌, ℕ, ◌+◌, ◌-◌, ◌<◌, ◌≤◌, [], ◌∷◌, ◌++◌, length, take, slice_index}
use Rattle.word_layout.specs.declared.name.WordName.TheVariants.{Next}
use Rattle.pool_machine.specs.declared.view.PoolView.{PoolView}
use Rattle.pool_machine.specs.declared.view.ProcessView.{ProcessView}
use Rattle.transfer_invariant.specs.Memory.{Words}

-- a view with the transfer and the pool of another: what else it has doesn't matter here
pub record SameParts (x v : ProcessView) : Type 0 where
  pub transfer : x.transfer ≡ v.transfer
  pub pool : x.pool ≡ v.pool

-- a view whose lists and whose transfer are those of another
pub record KeepsLists (old new : ProcessView) : Type 0 where
  pub transfer : new.transfer ≡ old.transfer
  pub head : new.pool.head ≡ old.pool.head
  pub current : new.pool.plan.current ≡ old.pool.plan.current
  pub heads : new.pool.heads ≡ old.pool.heads

-- the first block of the current list leaves it
pub record FirstLeaves (words : Words) (block : ℕ) (old new : PoolView) : Type 0 where
  pub first : old.head ≡ block + 1
  pub some : 1 ≤ old.plan.current
  pub head : new.head ≡ words (Next block)
  pub fewer : new.plan.current + 1 ≡ old.plan.current
  pub heads : new.heads ≡ old.heads

-- the newest spare becomes the current list, which was empty, and its first block leaves it
pub record SpareOpens (batch : ℕ) (words : Words) (block : ℕ) (old new : PoolView) : Type 0 where
  pub none : old.plan.current ≡ 0
  pub some : 1 ≤ length old.heads
  pub newest : slice_index old.heads (length old.heads - 1) ≡ block
  pub heads : new.heads ≡ take (length old.heads - 1) old.heads
  pub head : new.head ≡ words (Next block)
  pub fewer : new.plan.current + 1 ≡ batch

-- a block comes before the current list
pub record FirstComes (batch : ℕ) (new_words : Words) (block : ℕ) (old new : PoolView) : Type 0 where
  pub room : old.plan.current < batch
  pub next : new_words (Next block) ≡ old.head
  pub head : new.head ≡ block + 1
  pub more : new.plan.current ≡ old.plan.current + 1
  pub heads : new.heads ≡ old.heads

-- the full current list becomes the newest spare, and a block begins another list
pub record ListStarts (batch : ℕ) (new_words : Words) (block : ℕ) (old new : PoolView) : Type 0 where
  pub full : old.plan.current ≡ batch
  pub next : new_words (Next block) ≡ 0
  pub head : new.head ≡ block + 1
  pub alone : new.plan.current ≡ 1
  pub heads : new.heads ≡ old.heads ++ (old.head - 1) ∷ []
