use Rattle.std.proofs.Common.{◌≡◌, ◌+◌, ◌*◌, ◌≤◌}
use Rattle.arrayvec.specs.ArrayString.{array_string_len}
use Rattle.trace_player.specs.Report.{sums_of}
use Rattle.pool_cli.proofs.Sums.{line_up_to}
use Rattle.pool_cli.proofs.report.write_line.Given as goal

abbrev pub invariant-loop-place : goal.invariant-loop-place
invariant-loop-place g l = record {
  text : l.line.bytes ≡ line_up_to l.place l.label (sums_of l.tallies);
  short : array_string_len l.line ≤ 21 + l.place * 49;
}
