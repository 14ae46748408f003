use Rattle.std.proofs.Common.{◌∙◌, ap, sym}
use Rattle.std.specs.Prelude.{option_and_then}
use Rattle.clap.specs.Words.{found_of}
use Rattle.command_words.proofs.Parses.{number_at-text}
use Rattle.command_words.specs.Number.{number_of}
use Rattle.command_words.proofs.options.long_number_of_option.Goals as goal

pub returns-in_err-get_str : goal.returns-in_err-get_str
returns-in_err-get_str c = c.from_residual.ensures
    ∙ ap (option_and_then (λ t. number_of 64 t.now)) (sym c.in_err-get_str.was)
    ∙ number_at-text 64 (found_of c.args.matches.now) c.args.name.now c.get_str.result c.get_str.ensures

pub returns : goal.returns
returns c = c.read_number.ensures
    ∙ ap (option_and_then (λ t. number_of 64 t.now)) (sym c.in_ok-get_str.was)
    ∙ number_at-text 64 (found_of c.args.matches.now) c.args.name.now c.get_str.result c.get_str.ensures
