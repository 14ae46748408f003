use Rattle.std.proofs.Common.{arith}
use Rattle.std.proofs.lemmas.List.Sums.{fold_more}
use Rattle.mtrace_reader.specs.declared.trace.Operation.TheVariants.{New}
use Rattle.pool_fit.specs.Moves.{after, nothing_live}
use Rattle.pool_fit.proofs.moves.trace_moves.Goals as goal

pub loop-operation-preserved : goal.loop-operation-preserved
loop-operation-preserved c =
    let items = c.as_slice-operation-items.result.now in
    rw (fold_more after nothing_live items c.loop-operation.operation-index (New 0 0) (omega arith))
    (c.in_ok-follow.ensures _ c.loop-operation.invariant)
