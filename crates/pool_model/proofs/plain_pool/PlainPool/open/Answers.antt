use Rattle.std.proofs.Common.{arith}
use Rattle.pool_model.proofs.PlainSteps.{kept_open}
use Rattle.pool_model.proofs.plain_pool.PlainPool.open.Goals as goal

pub invariant_of-result : goal.invariant_of-result
invariant_of-result c =
    rw c.in_ok-with_capacity.ensures.items (kept_open c.args.blocks _ (omega (arith, c.in_ok-with_capacity.ensures.exact)))
