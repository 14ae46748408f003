use Rattle.trace_player.specs.Report.{columns_of}
use Rattle.pool_cli.proofs.Sums.{Added}
use Rattle.pool_cli.proofs.report.add_columns.Given as goal

abbrev pub invariant-loop-place : goal.invariant-loop-place
invariant-loop-place l = Added (columns_of l.tally) l.place l.initial.sums l.sums
