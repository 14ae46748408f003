use Rattle.std.proofs.Common.{◌≡◌, length}
use Rattle.line_text.specs.Words.{words}
use Rattle.line_text.proofs.words.trim_start.Given as goal

abbrev pub invariant-loop-line : goal.invariant-loop-line
invariant-loop-line l = words l.line ≡ words l.initial.line

abbrev pub decreases-loop-line : goal.decreases-loop-line
decreases-loop-line l = length l.line
