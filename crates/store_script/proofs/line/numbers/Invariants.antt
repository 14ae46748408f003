use Rattle.std.proofs.Common.{◌≡◌, ◌≤◌, length}
use Rattle.line_text.specs.Words.{words}
use Rattle.store_script.specs.Line.{numbers_of}
use Rattle.store_script.specs.Numbers.{behind}
use Rattle.store_script.proofs.line.numbers.Given as goal

-- the numbers so far and those of the rest are those of the line
abbrev pub invariant-loop-word : goal.invariant-loop-word
invariant-loop-word l = record {
  all : behind l.numbers.items (numbers_of (words l.rest)) ≡ numbers_of (words l.line);
  short : length l.numbers.items ≤ 5;
}

abbrev pub decreases-loop-word : goal.decreases-loop-word
decreases-loop-word l = length (words l.rest)
