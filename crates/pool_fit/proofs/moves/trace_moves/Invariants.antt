use Rattle.std.proofs.Common.{take, fold}
use Rattle.pool_fit.specs.Moves.{IsAt, after, nothing_live}
use Rattle.pool_fit.proofs.moves.trace_moves.Given as goal

-- the writer is at the walk over the operations so far
abbrev pub invariant-loop-operation : goal.invariant-loop-operation
invariant-loop-operation l = IsAt l.writer (fold after nothing_live (take l.operation-index l.operation-items))
