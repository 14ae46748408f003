use Rattle.std.proofs.Common.{◌*◌, ◌^◌, ◌≤◌, ℕ, get_or, take}
use Rattle.trace_player.specs.Report.{sums_of}
use Rattle.pool_cli.proofs.Sums.{HasNumbers}
use Rattle.pool_cli.proofs.report.sums_of_columns.Given as goal

-- the sums over the tallies so far
abbrev pub invariant-loop-tally : goal.invariant-loop-tally
invariant-loop-tally l = record {
  summed : HasNumbers (sums_of (take l.tally-index l.tallies)) l.sums;
  small : (k : ℕ) → get_or l.sums k 0 ≤ l.tally-index * 2 ^ 64;
}
