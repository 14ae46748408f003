use Rattle.std.proofs.Common.{take}
use Rattle.pool_fit.specs.SizeRows.{AreQuantumRows}
use Rattle.pool_fit.proofs.sizes.quantum_rows.Given as goal

-- the rows of the shapes so far
abbrev pub invariant-loop-shape : goal.invariant-loop-shape
invariant-loop-shape l = AreQuantumRows (take l.shape-index l.smallest) l.size l.live l.rows.items
