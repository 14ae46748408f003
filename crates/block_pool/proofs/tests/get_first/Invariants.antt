use Rattle.std.proofs.Common.{ℕ, ◌<◌}
use Rattle.std.specs.Prelude.{Contains}
use Rattle.block_pool.proofs.TestedCalls.{HasCalled}
use Rattle.block_pool.proofs.tests.get_first.Given as goal

abbrev pub invariant-loop-block : goal.invariant-loop-block
invariant-loop-block g l =
    HasCalled l.pool l.fn.pass l.pass l.block l.fn.steps l.steps × ((b : ℕ) → b < l.block → Contains l.pass.held b)
