-- What a pool needs that refuses nothing, and what it takes.
use Rattle.std.specs.Prelude.{◌≡◌, ℕ, ◌+◌, ◌*◌, Some, None, Option}
use Rattle.word_layout.specs.Sizes.{Sizes, IsLength, IsShape, blocks}
use Rattle.pool_sizing.specs.Bytes.{memory}
use Rattle.pool_sizing.specs.Enough.{AreEnough, AreLeastEnough}
use Rattle.pool_fit.specs.declared.rows.EnoughPool.{EnoughPool}
use Rattle.pool_fit.specs.declared.rows.QuantumRow.{QuantumRow}

-- the pool has these numbers, and each of its blocks stands for `size` bytes of memory
pub record IsPoolOf (numbers : Sizes) (size : ℕ) (pool : EnoughPool) : Type 0 where
  pub batches : pool.batches ≡ numbers.batches
  pub blocks_of : pool.blocks ≡ blocks numbers
  pub bytes : pool.bytes ≡ memory numbers + size * blocks numbers

-- the pool has no data words and the fewest batches that are enough for so many blocks held together
pub record IsLeastPool (processes quantum size live : ℕ) (pool : EnoughPool) : Type 0 where
  pub numbers : Sizes
  pub is_shape : IsShape numbers
  pub processes_of : numbers.processes ≡ processes
  pub words_of : numbers.words ≡ 0
  pub quantum_of : numbers.quantum ≡ quantum
  pub of : IsPoolOf numbers size pool
  pub least : AreLeastEnough processes quantum live pool.batches

-- the fewest batches that are enough, where some are
abbrev pub IsLeastPoolIfAny : ℕ → ℕ → ℕ → ℕ → Option EnoughPool → Type 0
IsLeastPoolIfAny processes quantum size live (Some pool) = IsLeastPool processes quantum size live pool
IsLeastPoolIfAny processes quantum size live None = (batches : ℕ) → AreEnough processes quantum live batches → ⊥

-- what a pool of this quantum needs for so many blocks of `size` bytes held together
pub record IsQuantumRow (processes quantum size live : ℕ) (row : QuantumRow) : Type 0 where
  pub quantum_of : row.quantum ≡ quantum
  pub least_length : IsLength processes quantum row.length
  pub pool : IsLeastPoolIfAny processes quantum size live row.pool
