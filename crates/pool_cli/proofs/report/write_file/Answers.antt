use Rattle.std.proofs.Common.{List, ℕ, ◌∙◌, ap, subst}
use Rattle.std.specs.Prelude.{decimal}
use Rattle.pool_io.specs.Writes.{Writes}
use Rattle.trace_player.specs.Report.{line_text, sums_of}
use Rattle.pool_cli.proofs.Sums.{sums_of_one}
use Rattle.pool_cli.proofs.report.write_file.Goals as goal

pub returns : goal.returns
returns g c =
    let Line : List (List ℕ × ℕ) → Type 0 = λ line. Writes g.K.Sink (line_text (decimal c.args.number) line) c.args.out.now c.write_line.new.out c.write_line.result in
    subst Line (ap sums_of c.from_ref.ensures.value ∙ sums_of_one c.args.tally.now) (rw (← c.format.ensures.text) c.write_line.ensures)
