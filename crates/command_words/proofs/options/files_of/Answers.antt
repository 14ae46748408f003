use Rattle.std.proofs.Common.{◌∙◌, Some, ap, map, sym}
use Rattle.std.specs.Prelude.{codes, option_map}
use Rattle.std.specs.Result.{result_ok}
use Rattle.clap.specs.Words.{found_of}
use Rattle.command_words.proofs.Parses.{all_of-values, handed_on}
use Rattle.command_words.proofs.options.files_of.Goals as goal

pub returns-in_err-names : goal.returns-in_err-names
returns-in_err-names c =
    let values = all_of-values (found_of c.args.matches.now) (codes "files") c.get_raw.result c.get_raw.ensures in
    handed_on _ c.from_residual.result c.in_err-names.field-0.0 c.from_residual.ensures.1
    (λ _. sym values ∙ ap (option_map (λ s. map (λ v. v.now) s.now)) (c.ok_or.ensures.ok_part ∙ ap result_ok c.in_err-names.was))

pub returns : goal.returns
returns c =
    let values = all_of-values (found_of c.args.matches.now) (codes "files") c.get_raw.result c.get_raw.ensures in
    sym values ∙ ap (option_map (λ s. map (λ v. v.now) s.now)) (c.ok_or.ensures.ok_part ∙ ap result_ok c.in_ok-names.was)
    ∙ ap Some (sym c.in_ok-file_names.ensures)
