use Rattle.std.proofs.Common.{◌∙◌, get_or}
use Rattle.std.proofs.lemmas.Result.{err_from_is_err_and}
use Rattle.schedule_replay.specs.Text.{note_line}
use Rattle.schedule_replay.proofs.Texts.{adds_part_more, adds_parts_failed}
use Rattle.schedule_replay.proofs.text.add_notes.Goals as goal

pub returns-in_err-add : goal.returns-in_err-add
returns-in_err-add g c =
    let p = err_from_is_err_and c.from_residual.result c.from_residual.ensures.1 in
    rw p.1
    (adds_parts_failed g.K.Sink note_line c.args.notes.now c.loop-note.note-index _ _ _ _ _ _ c.loop-note-test.true c.loop-note.invariant
    _ _ _
    c.in_err-add.field-0.0 _ (c.as_str.ensures.value ∙ c.note_piece.ensures) (rw c.in_err-add.was at c.add.ensures))

pub loop-note-preserved : goal.loop-note-preserved
loop-note-preserved g c =
    adds_part_more g.K.Sink note_line c.args.notes.now c.loop-note.note-index _ _ _ _ _ _ c.loop-note-test.true c.loop-note.invariant _ _
    (c.as_str.ensures.value ∙ c.note_piece.ensures) (rw c.in_ok-add.was at c.add.ensures)
