use Rattle.std.proofs.Common.{sym}
use Rattle.std.proofs.lemmas.List.{take_rest}
use Rattle.line_text.proofs.Lines.{no_end, no_end_before, parts_at_end}
use Rattle.line_text.proofs.cutting.split_line.Goals as goal

pub returns-in_err-end-clause-none : goal.returns-in_err-end-clause-none
returns-in_err-end-clause-none c = rw c.from_residual.ensures (no_end _ (sym c.in_err-end.ensures))

pub returns-clause-line : goal.returns-clause-line
returns-clause-line c = no_end_before _ _ (sym c.in_ok-end.ensures)

pub returns-clause-parts : goal.returns-clause-parts
returns-clause-parts c = rw take_rest (parts_at_end _ _ (sym c.in_ok-end.ensures))
