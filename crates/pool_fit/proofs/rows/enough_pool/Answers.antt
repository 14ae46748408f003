use Rattle.std.proofs.Common.{◌≡◌, ◌*◌, arith}
use Rattle.word_layout.specs.Sizes.{blocks}
use Rattle.pool_fit.proofs.Pools.{small_blocks, small_memory}
use Rattle.pool_fit.proofs.rows.enough_pool.Goals as goal

pub overflow_add-result : goal.overflow_add-result
overflow_add-result c =
    let product : c.from.result * c.from-2.result ≡ c.args.size * blocks c.args.shape.now = cc in
    omega (
      arith,
      small_memory c.args.shape.now c.batches.ensures.shape,
      small_blocks c.args.size c.args.shape.now c.batches.ensures.shape (omega arith),
      c.memory.ensures,
      product,
    )
