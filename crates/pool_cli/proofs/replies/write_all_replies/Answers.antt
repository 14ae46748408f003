use Rattle.std.proofs.Common.{List, ◌+◌, ◌∙◌, Ok, Err, subst}
use Rattle.std.proofs.lemmas.Result.{err_from_is_err_and}
use Rattle.pool_io.specs.declared.files.Failed.{Failed}
use Rattle.pool_io.specs.Writes.{Writes}
use Rattle.store_script.specs.declared.answered.Answered.{Answered}
use Rattle.store_script.specs.Text.{replies_text}
use Rattle.pool_cli.specs.Replies.{replies_from}
use Rattle.pool_cli.proofs.Reports.{replies_one_by_one}
use Rattle.pool_cli.proofs.Texts.{texts_more, texts_part}
use Rattle.pool_cli.proofs.replies.write_all_replies.Goals as goal

pub loop-index-preserved : goal.loop-index-preserved
loop-index-preserved g c =
    texts_more replies_text replies_from replies_one_by_one g.K.Sink _ _ _ c.args.lists.now c.loop-index.index _ c.loop-index-test.true
    c.loop-index.invariant
    (subst (λ (answers : List Answered). Writes {T = Unit {0}} {E = Failed} g.K.Sink (replies_text (c.loop-index.index + 1) answers)
    c.loop-index.out c.write_replies.new.out (Ok tt)) (c.as_slice.ensures ∙ c.index-lists-index.is) c.in_ok-write_replies.ensures)

pub returns-in_err-write_replies : goal.returns-in_err-write_replies
returns-in_err-write_replies g c =
    let p = err_from_is_err_and c.from_residual.result c.from_residual.ensures.1 in
    let cut = subst (λ (answers : List Answered). Writes {T = Unit {0}} {E = Failed} g.K.Sink
    (replies_text (c.loop-index.index + 1) answers) c.loop-index.out c.write_replies.new.out (Err c.in_err-write_replies.field-0.0))
    (c.as_slice.ensures ∙ c.index-lists-index.is) c.in_err-write_replies.ensures in
    rw p.1 (texts_part replies_text replies_from replies_one_by_one g.K.Sink _ _ _ c.args.lists.now c.loop-index.index _ _ _
    c.loop-index-test.true c.loop-index.invariant cut)
