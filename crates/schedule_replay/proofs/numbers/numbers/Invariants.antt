use Rattle.std.proofs.Common.{◌≡◌, ◌≤◌, length}
use Rattle.line_text.specs.Words.{words}
use Rattle.schedule_replay.specs.Numbers.{behind, numbers_of}
use Rattle.schedule_replay.proofs.numbers.numbers.Given as goal

-- the numbers so far and those of the rest are those of the line
abbrev pub invariant-loop-word : goal.invariant-loop-word
invariant-loop-word l = record {
  all : behind l.numbers.items (numbers_of (words l.rest)) ≡ numbers_of (words l.line);
  short : length l.numbers.items ≤ 4;
}

abbrev pub decreases-loop-word : goal.decreases-loop-word
decreases-loop-word l = length (words l.rest)
