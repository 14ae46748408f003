-- A plain pool: what contracts see of `PlainPool`.
use Rattle.std.specs.Prelude.{◌≡◌, ℕ, ◌<◌, ◌↔◌, ◌⊎◌, Option, Some, None, List, Contains}
use Rattle.pool_model.specs.declared.entry.Entry.{Entry}
use Rattle.pool_model.specs.declared.entry.Entry.TheVariants.{Got, Dry}
use Rattle.pool_model.specs.History.{held}

-- how many blocks there are, how many were given out at least once, and those that came back, the latest last
pub record Plain : Type 0 where
  pub blocks : ℕ
  pub given : ℕ
  pub returned : List ℕ

-- the block was given out and did not come back
abbrev pub IsHeld : Plain → ℕ → Type 0
IsHeld pool block = (block < pool.given) × ¬ Contains pool.returned block

-- all blocks are held
abbrev pub IsFull : Plain → Type 0
IsFull pool = (block : ℕ) → block < pool.blocks → IsHeld pool block

-- the block, one of the pool that was not held, is held besides those that were
pub record Gives (old new : Plain) (block : ℕ) : Type 0 where
  pub within : block < old.blocks
  pub free : ¬ IsHeld old block
  pub held : (other : ℕ) → IsHeld new other ↔ (IsHeld old other ⊎ (other ≡ block))
  pub blocks : new.blocks ≡ old.blocks

-- the block is no longer held, and the others that were are
pub record Takes (old new : Plain) (block : ℕ) : Type 0 where
  pub held : (other : ℕ) → IsHeld new other ↔ (IsHeld old other × ¬ (other ≡ block))
  pub blocks : new.blocks ≡ old.blocks

-- the entry of an allocate of process i by its answer
abbrev pub answer_of : ℕ → Option ℕ → Entry
answer_of i (Some block) = Got i block
answer_of i None = Dry i

-- the pool is as the history leaves it: the same blocks are held
abbrev pub IsLeftBy : List Entry → Plain → Type 0
IsLeftBy history pool = (block : ℕ) → Contains (held history) block ↔ IsHeld pool block
