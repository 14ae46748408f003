use Rattle.std.proofs.Common.{take}
use Rattle.pool_fit.specs.SizeRows.{AreSizeRows}
use Rattle.pool_fit.proofs.fitting.size_rows.Given as goal

-- the rows of the sizes so far
abbrev pub invariant-loop-size : goal.invariant-loop-size
invariant-loop-size l = AreSizeRows l.traces l.smallest (take l.size-index l.sizes) l.rows.items
