use Rattle.std.proofs.Common.{◌∙◌, sym, arith}
use Rattle.line_text.proofs.Digits.{ReadsDigits-all, ReadsDigits-more, too_large}
use Rattle.line_text.proofs.numbers.number_of_digits.Goals as goal

pub returns-in_err-number : goal.returns-in_err-number
returns-in_err-number c =
    let digit = c.in_ok-value.ensures.value in
    let large = too_large c.args.base c.args.digits.now c.loop-digit.digit-index c.loop-digit.number c.from.result (omega arith)
    c.from.ensures c.loop-digit.invariant (omega (arith, c.requires.two)) (rw (← digit.1) c.in_err-number.ensures) in
    c.from_residual-in_err-number.ensures ∙ sym large

pub loop-digit-preserved : goal.loop-digit-preserved
loop-digit-preserved c =
    let digit = c.in_ok-value.ensures.value in
    let next = c.in_ok-number.ensures in
    rw (next.1, digit.1)
    (ReadsDigits-more c.args.base c.args.digits.now c.loop-digit.digit-index c.loop-digit.number c.from.result (omega arith) c.from.ensures
    c.loop-digit.invariant digit.0 (rw (← digit.1) next.0))

pub returns : goal.returns
returns c = ReadsDigits-all c.args.base c.args.digits.now c.loop-digit.digit-index c.loop-digit.number (omega arith) c.loop-digit.invariant
