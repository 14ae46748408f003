-- How many batches are enough, and what a pool takes at most.
use Rattle.std.proofs.Common.{ℕ, ◌*◌, ◌^◌, ◌<◌, ◌≤◌, arith}
use Rattle.std.proofs.lemmas.Nat.{mul-le}
use Rattle.word_layout.specs.Sizes.{Sizes, IsShape, blocks}
use Rattle.word_layout.specs.Names.{table_words}
use Rattle.word_layout.specs.Faults.{IsFirstFault}
use Rattle.word_layout.specs.declared.fault.ShapeFault.{ShapeFault}
use Rattle.word_layout.proofs.Limits.{data_start_lt}
use Rattle.pool_sizing.specs.Bytes.{mark_words, memory}
use Rattle.pool_sizing.specs.Enough.{AreLeastEnough}
use Rattle.pool_sizing.proofs.Counts.{no_shape}

-- batches that are enough are those of a shape
pub enough_has_no_fault : (processes quantum live batches : ℕ) (fault : ShapeFault) → AreLeastEnough processes quantum live batches
    → IsFirstFault processes batches 0 quantum fault → ⊥
enough_has_no_fault processes quantum live batches fault least first =
    no_shape processes batches quantum fault first least.enough.length least.enough.is_shape

-- a pool takes few bytes
pub small_memory : (pool : Sizes) → IsShape pool → memory pool < 2 ^ 40
unfolding table_words
small_memory pool is =
    omega (
      arith,
      data_start_lt pool is,
      is.few_blocks,
      mul-le (blocks pool) pool.words (2 ^ 22) 8 is.few_blocks is.few_words,
      mul-le pool.processes (mark_words pool) 32 (2 ^ 17) is.few_processes (omega (arith, is.few_blocks)),
    )

-- and so do its blocks
pub small_blocks : (size : ℕ) (pool : Sizes) → IsShape pool → size < 2 ^ 32 → size * blocks pool ≤ 2 ^ 54
small_blocks size pool is small = omega (arith, mul-le size (blocks pool) (2 ^ 32) (2 ^ 22) (omega arith) is.few_blocks)
