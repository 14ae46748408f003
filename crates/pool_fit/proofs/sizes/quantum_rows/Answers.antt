use Rattle.std.proofs.Common.{arith}
use Rattle.word_layout.specs.Sizes.{Sizes}
use Rattle.pool_fit.specs.Rows.{IsQuantumRow}
use Rattle.pool_fit.proofs.Tables.{rows_more}
use Rattle.pool_fit.proofs.sizes.quantum_rows.Goals as goal

pub loop-shape-preserved : goal.loop-shape-preserved
loop-shape-preserved c =
    let next = rows_more (λ (pool : Sizes). IsQuantumRow pool.processes pool.quantum c.args.size c.args.live) c.args.smallest.now
    c.loop-shape.shape-index c.shape-item.result c.loop-shape.rows.items c.quantum_row.result (omega arith) c.shape-item.is
    c.loop-shape.invariant c.quantum_row.ensures in
    rw c.in_ok-push.ensures.items next
