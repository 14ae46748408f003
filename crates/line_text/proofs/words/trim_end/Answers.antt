use Rattle.std.proofs.Common.{◌≡◌, ◌-◌, ◌∙◌, arith, get_or, length}
use Rattle.std.proofs.lemmas.Grind.{common_steps}
use Rattle.line_text.proofs.Cuts.{words-take_space}
use Rattle.line_text.proofs.words.trim_end.Goals as goal

pub loop-line-preserved : goal.loop-line-preserved
loop-line-preserved c =
    let line = c.loop-line.line.now in
    let ends : get_or line (length line - 1) 0 ≡ 32 = grind (arith, common_steps) in
    words-take_space line c.in-32.len_at_least ends ∙ c.loop-line.invariant
