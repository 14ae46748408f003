use Rattle.std.proofs.Common.{arith}
use Rattle.mtrace_reader.proofs.Making.{making_after-none, making_after-more, length-making_after}
use Rattle.mtrace_reader.proofs.made.make_trace.Goals as goal

pub loop-index-init : goal.loop-index-init
loop-index-init c = rw making_after-none c.in_ok-maker.ensures

pub loop-index-preserved : goal.loop-index-preserved
loop-index-preserved c = rw (making_after-more, ← c.loop-index.invariant) c.in_ok-call.ensures

pub returns-clause-count : goal.returns-clause-count
returns-clause-count c = grind (arith, length-making_after c.args.seed c.args.calls)
