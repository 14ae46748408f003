use Rattle.std.proofs.Common.{◌≡◌, take}
use Rattle.pool_fit.specs.SizeRows.{scripts_of}
use Rattle.pool_fit.proofs.sizes.scripts.Given as goal

-- the scripts of the traces so far
abbrev pub invariant-loop-trace : goal.invariant-loop-trace
invariant-loop-trace l = l.scripts.items ≡ scripts_of (take l.trace-index l.traces) l.size
