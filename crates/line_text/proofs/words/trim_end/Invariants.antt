use Rattle.std.proofs.Common.{◌≡◌, length}
use Rattle.line_text.specs.Words.{words}
use Rattle.line_text.proofs.words.trim_end.Given as goal

abbrev pub invariant-loop-last : goal.invariant-loop-last
invariant-loop-last l = words l.line ≡ words l.initial.line

abbrev pub decreases-loop-last : goal.decreases-loop-last
decreases-loop-last l = length l.line
