use Rattle.std.proofs.Common.{refl, arith}
use Rattle.word_layout.proofs.Refusals.{shape_is}
use Rattle.word_layout.proofs.shape.Shape.with_quantum.Goals as goal

pub laid_out-requires : goal.laid_out-requires
laid_out-requires c =
    let a = c.args in
    let is_quantum = c.if-not-is_quantum.ensures.0 refl in
    shape_is a.processes a.batches a.words a.quantum c.least_length-length.result (omega arith) (omega arith) (omega arith)
    is_quantum c.least_length-length.ensures (grind arith) (omega arith)
