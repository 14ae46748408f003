use Rattle.std.proofs.Common.{take}
use Rattle.line_text.proofs.Digits.{ReadsDigits}
use Rattle.line_text.proofs.numbers.number_of_digits.Given as goal

abbrev pub invariant-loop-digit : goal.invariant-loop-digit
invariant-loop-digit l = ReadsDigits l.base (take l.digit-index l.digits) l.number
