use Rattle.std.proofs.Common.{◌+◌, ◌≤◌, ◌^◌, length}
use Rattle.schedule_replay.specs.ScheduleWriter.{HasRead, has_read}
use Rattle.schedule_replay.proofs.reading.read_lines.Given as goal

-- the lines before the rest are read, and they are no more than their bytes
abbrev pub invariant-loop-line : goal.invariant-loop-line
invariant-loop-line l = record {
  read : HasRead l.bytes l.rest l.number (has_read l.writer);
  few_lines : l.number + length l.rest ≤ length l.bytes + 1;
  few_events : l.writer.events ≤ 2 ^ 24;
}

abbrev pub decreases-loop-line : goal.decreases-loop-line
decreases-loop-line l = length l.rest
