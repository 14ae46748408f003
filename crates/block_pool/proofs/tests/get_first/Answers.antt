use Rattle.std.proofs.Common.{rules}
use Rattle.block_pool.proofs.TestedCalls.{one_called, one_more_held}
use Rattle.block_pool.proofs.tests.get_first.Goals as goal

pub loop-block-preserved : goal.loop-block-preserved
loop-block-preserved g c = (
  one_called _ _ _ _ _ _ _ _ c.loop-block.invariant.0 c.allocate.ensures.pass c.allocate.ensures.steps,
  one_more_held _ _ _ c.loop-block.invariant.1 c.allocate.ensures.held (search rules),
)
