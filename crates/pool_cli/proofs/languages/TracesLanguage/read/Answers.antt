use Rattle.std.proofs.Common.{arith}
use Rattle.mtrace_reader.proofs.Short.{steps-le-operations}
use Rattle.pool_cli.proofs.languages.TracesLanguage.read.Goals as goal

pub returns-clause-usable : goal.returns-clause-usable
returns-clause-usable g c = record {
  formed = c.in-Ok.ensures.well_formed;
  few = rw c.in-Ok.ensures.walked
      (omega (arith, steps-le-operations c.in_ok-trace.trace c.args.self.now.size, c.in_ok-trace.ensures.few, c.in_ok-trace.ensures.limit));
}
