use Rattle.std.proofs.Common.{arith}
use Rattle.std.proofs.lemmas.Grind.{common_steps}
use Rattle.pool_io.proofs.memory_sink.MemorySinkSink.write.Goals as goal

pub returns-clause-sure : goal.returns-clause-sure
returns-clause-sure c room all short = record {
  none_failing = (rw c.deref.ensures.value at c.count_call-fails.ensures.none) all.none_failing;
  fits = grind (arith, common_steps, all.fits, c.extend_from_slice.ensures.len, c.extend_from_slice.ensures.items);
}
