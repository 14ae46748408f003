use Rattle.std.proofs.Common.{◌∙◌}
use Rattle.std.proofs.lemmas.Result.{err_from_is_err_and}
use Rattle.schedule_replay.proofs.Texts.{adds_kept_more, adds_kept_failed}
use Rattle.schedule_replay.proofs.text.add_kept.Goals as goal

pub returns-in_err-add : goal.returns-in_err-add
returns-in_err-add g c =
    let p = err_from_is_err_and c.from_residual.result c.from_residual.ensures.1 in
    rw p.1
    (adds_kept_failed g.K.Sink c.args.kept.now c.loop-process.process _ _ _ _ _ _ c.loop-process-test.true c.loop-process.invariant _ _ _
    c.in_err-add.field-0.0 _ (c.as_str.ensures.value ∙ c.kept_piece.ensures) (rw c.in_err-add.was at c.add.ensures))

pub loop-process-preserved : goal.loop-process-preserved
loop-process-preserved g c =
    adds_kept_more g.K.Sink c.args.kept.now c.loop-process.process _ _ _ _ _ _ c.loop-process-test.true c.loop-process.invariant _ _
    (c.as_str.ensures.value ∙ c.kept_piece.ensures) (rw c.in_ok-add.was at c.add.ensures)
