use Rattle.std.proofs.Common.{◌≡◌, take}
use Rattle.pool_fit.specs.SizeRows.{moves_of_all}
use Rattle.pool_fit.proofs.fitting.moves_of_traces.Given as goal

-- the moves of the traces so far
abbrev pub invariant-loop-trace : goal.invariant-loop-trace
invariant-loop-trace l = l.moves.items ≡ moves_of_all (take l.trace-index l.traces)
