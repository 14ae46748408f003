use Rattle.std.specs.Vec.Iter.{into_iter_items}
use Rattle.block_pool.proofs.Opened.{PassesMade}
use Rattle.block_pool.proofs.opening.open_passes.Given as goal

abbrev pub invariant-loop-seat : goal.invariant-loop-seat
invariant-loop-seat l = PassesMade l.pool.table l.pool.sizes (into_iter_items l.seat-iterator) l.passes.items
