use Rattle.std.proofs.Common.{arith, sym, ◌∙◌, ◌<◌, length}
use Rattle.std.proofs.lemmas.Bool.Decides.{nat_tests}
use Rattle.line_text.proofs.Cuts.{words_at_last_run, begins_within}
use Rattle.line_text.proofs.words.split_last_word.Goals as goal

pub returns : goal.returns
returns c =
    let line = c.trim_end-line.result.now in
    let run = c.last_word_start.ensures in
    let some : 0 < length line = grind (arith, nat_tests) in
    let within = begins_within line _ some run.within (c.trim_end-line.ensures.ends some) run.before in
    rw (c.split_at.ensures.front, c.split_at.ensures.back)
    (sym c.trim_end-line.ensures.words ∙ words_at_last_run line _ within run.word run.before)
