use Rattle.std.specs.Vec.Iter.{into_iter_items}
use Rattle.block_pool.proofs.Joined.{IsJoining}
use Rattle.block_pool.proofs.closing.join_passes.Given as goal

abbrev pub invariant-loop-pass : goal.invariant-loop-pass
invariant-loop-pass l = IsJoining l.pool l.fn.passes.items (into_iter_items l.pass-iterator) l.steps l.kept l.held
