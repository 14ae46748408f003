use Rattle.block_pool.proofs.Standing.{stands}
use Rattle.block_pool.proofs.pass.Pass.stands_well.Goals as goal

pub returns : goal.returns
returns c = rw (← c.self.view_is) (stands _ c.self.inside.process c.self.invariant.between_calls)
