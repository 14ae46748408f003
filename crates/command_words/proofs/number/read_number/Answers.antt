use Rattle.std.proofs.Common.{◌∙◌, sym}
use Rattle.command_words.proofs.Numbers.{no_number, parsed_number}
use Rattle.command_words.proofs.number.read_number.Goals as goal

pub returns-then-not-has_digits_alone : goal.returns-then-not-has_digits_alone
returns-then-not-has_digits_alone c =
    sym (no_number 64 c.args.text.now (sym c.has_digits_alone.ensures ∙ c.if-not-has_digits_alone.true))

pub returns : goal.returns
returns c =
    let digits = sym c.has_digits_alone.ensures ∙ c.if-not-has_digits_alone.false in
    c.ok.ensures.value ∙ parsed_number 64 c.args.text.now c.parse.result digits c.parse.ensures.value.0
