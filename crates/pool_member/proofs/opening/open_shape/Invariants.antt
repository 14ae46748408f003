use Rattle.std.proofs.Common.{◌++◌}
use Rattle.std.specs.Arc.{arc_value}
use Rattle.std.specs.Vec.Iter.{into_iter_items}
use Rattle.block_pool.specs.Opening.{AreOpenedPasses}
use Rattle.pool_member.proofs.opening.open_shape.Given as goal

-- the members so far and the passes to come are the opened ones
abbrev pub invariant-loop-pass : goal.invariant-loop-pass
invariant-loop-pass l = AreOpenedPasses (arc_value l.pool) (l.members.items ++ into_iter_items l.pass-iterator)
