use Rattle.std.proofs.Common.{arith}
use Rattle.mtrace_reader.proofs.Short.{steps-le-operations}
use Rattle.pool_runs.proofs.drill.process_script.Goals as goal

pub returns-clause-playable : goal.returns-clause-playable
returns-clause-playable c = record {
  formed = c.in_ok-script.ensures.well_formed;
  few = rw c.in_ok-script.ensures.walked
      (omega (arith, steps-le-operations c.in_ok-trace.trace 64, c.in_ok-trace.ensures.count));
}
