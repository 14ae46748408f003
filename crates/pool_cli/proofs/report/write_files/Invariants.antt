use Rattle.std.proofs.Common.{Ok, take}
use Rattle.pool_io.specs.declared.files.Failed.{Failed}
use Rattle.pool_io.specs.Writes.{Writes}
use Rattle.trace_player.specs.Report.{lines_from}
use Rattle.pool_cli.proofs.report.write_files.Given as goal

abbrev pub invariant-loop-index : goal.invariant-loop-index
invariant-loop-index g l = Writes {T = Unit {0}} {E = Failed} g.K.Sink (lines_from 1 (take l.index l.tallies)) l.initial.out l.out (Ok tt)
