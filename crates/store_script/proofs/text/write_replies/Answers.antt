use Rattle.std.proofs.Common.{◌≡◌, ◌∙◌, take}
use Rattle.std.proofs.lemmas.List.{take_all}
use Rattle.std.proofs.lemmas.Result.{err_from_is_err_and}
use Rattle.store_script.proofs.Pages.{paged_more, paged_part, paged_all}
use Rattle.store_script.proofs.text.write_replies.Goals as goal

pub returns-in_err-make_room : goal.returns-in_err-make_room
returns-in_err-make_room g c =
    let p = err_from_is_err_and c.from_residual.result c.from_residual.ensures.1 in
    rw p.1
    (paged_part g.K.Sink _ _ _ c.loop-answer.page.bytes c.args.file c.args.answers.now c.loop-answer.answer-index c.loop-answer.invariant _
    _
    c.in_err-make_room.ensures.flushed.part)

pub loop-answer-preserved : goal.loop-answer-preserved
loop-answer-preserved g c =
    paged_more g.K.Sink _ _ _ c.loop-answer.page.bytes c.args.file c.args.answers.now c.loop-answer.answer-index c.loop-answer.invariant
    c.make_room.new.page.bytes c.push_line.new.page.bytes _ c.loop-answer-test.true c.in_ok-make_room.ensures.flushed c.push_line.ensures

pub returns : goal.returns
returns g c =
    let page = c.loop-answer.page.bytes in
    let bytes : c.as_bytes.result.now ≡ c.loop-answer.page.bytes = c.as_bytes.ensures.value ∙ c.as_str.ensures.value in
    let all : take c.loop-answer.answer-index c.args.answers.now ≡ c.args.answers.now = take_all _ _ c.loop-answer-test.false in
    paged_all g.K.Sink _ _ _ c.loop-answer.page.bytes _ _ (rw all at c.loop-answer.invariant) (rw bytes at c.write_whole.ensures)
