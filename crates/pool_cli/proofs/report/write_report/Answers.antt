use Rattle.pool_io.proofs.Writing.{writes_both}
use Rattle.pool_cli.proofs.report.write_report.Goals as goal

pub returns : goal.returns
returns g c = writes_both g.K.Sink _ _ _ _ _ _ _ c.in_ok-write_files.ensures c.write_line.ensures
