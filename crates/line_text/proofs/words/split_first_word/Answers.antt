use Rattle.std.proofs.Common.{arith, sym, ◌∙◌, ◌<◌, length}
use Rattle.std.proofs.lemmas.Bool.Decides.{nat_tests}
use Rattle.line_text.proofs.Cuts.{words_at_first_run}
use Rattle.line_text.proofs.words.split_first_word.Goals as goal

pub returns : goal.returns
returns c =
    let line = c.trim_start-line.result.now in
    let run = c.first_word_end.ensures in
    let longer : 0 < length line = grind (arith, nat_tests) in
    rw (c.split_at.ensures.front, c.split_at.ensures.back)
    (sym c.trim_start-line.ensures.words
    ∙ words_at_first_run line _ run.within run.word longer (c.trim_start-line.ensures.begins longer) run.after)
