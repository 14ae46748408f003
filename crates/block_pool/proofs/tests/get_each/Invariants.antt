use Rattle.block_pool.proofs.TestedCalls.{HasCalled}
use Rattle.block_pool.proofs.tests.get_each.Given as goal

abbrev pub invariant-loop-block : goal.invariant-loop-block
invariant-loop-block g l = HasCalled l.pool l.fn.pass l.pass l.block-index l.fn.steps l.steps
