use Rattle.std.proofs.Common.{◌++◌, ◌∙◌, [], append_assoc, append-nil, refl, sym}
use Rattle.std.specs.Prelude.{flat_map}
use Rattle.std.proofs.lemmas.Result.{err_from_is_err_and}
use Rattle.text_pages.proofs.Pages.{adds_both, adds_none}
use Rattle.schedule_replay.specs.Text.{note_line, tag_line, stack_line, kept_lines}
use Rattle.schedule_replay.proofs.Texts.{four_texts, text_failed, text_written, tagged}
use Rattle.schedule_replay.proofs.text.write_replay.Goals as goal

pub returns-in_err-add_notes : goal.returns-in_err-add_notes
returns-in_err-add_notes g c =
    let p = err_from_is_err_and c.from_residual.result c.from_residual.ensures.1 in
    let r = c.args.replayed.now in
    let notes = flat_map note_line c.args.replayed.now.notes.items in
    let rest = tag_line r.tag ++ (stack_line r.stack.items ++ kept_lines 0 r.kept.items) in
    rw p.1
    (text_failed g.K.Sink [] notes rest _ _ _ _ _ _ _ c.in_err-add_notes.field-0.0 _
    c.new-page.ensures (four_texts notes (tag_line r.tag) (stack_line r.stack.items) (kept_lines 0 r.kept.items))
    (adds_none g.K.Sink c.args.out.now c.new-page.result)
    (rw (c.deref.ensures.value, c.in_err-add_notes.was) at c.add_notes.ensures))

pub returns-in_err-add : goal.returns-in_err-add
returns-in_err-add g c =
    let p = err_from_is_err_and c.from_residual-in_err-add.result c.from_residual-in_err-add.ensures.1 in
    let r = c.args.replayed.now in
    let notes = flat_map note_line c.args.replayed.now.notes.items in
    let rest = stack_line r.stack.items ++ kept_lines 0 r.kept.items in
    let first = rw (c.deref.ensures.value, c.in_ok-add_notes.was) at c.add_notes.ensures in
    let tag = tagged g.K.Sink r.tag _ _ _ _ _ _ (c.as_str.ensures.value ∙ c.tag_piece.ensures) (rw c.in_err-add.was at c.add.ensures) in
    rw p.1
    (text_failed g.K.Sink notes (tag_line r.tag) rest _ _ _ _ _ _ _ c.in_err-add.field-0.0 _
    c.new-page.ensures (sym (append_assoc (notes ++ tag_line r.tag) (stack_line r.stack.items) (kept_lines 0 r.kept.items))) first tag)

pub returns-in_err-add_stack : goal.returns-in_err-add_stack
returns-in_err-add_stack g c =
    let p = err_from_is_err_and c.from_residual-in_err-add_stack.result c.from_residual-in_err-add_stack.ensures.1 in
    let r = c.args.replayed.now in
    let notes = flat_map note_line c.args.replayed.now.notes.items in
    let first = rw (c.deref.ensures.value, c.in_ok-add_notes.was) at c.add_notes.ensures in
    let tag = tagged g.K.Sink r.tag _ _ _ _ _ _ (c.as_str.ensures.value ∙ c.tag_piece.ensures) (rw c.in_ok-add.was at c.add.ensures) in
    rw p.1
    (text_failed g.K.Sink (notes ++ tag_line r.tag) (stack_line r.stack.items) (kept_lines 0 r.kept.items) _ _ _ _ _ _ _
    c.in_err-add_stack.field-0.0 _ c.new-page.ensures refl
    (adds_both g.K.Sink notes (tag_line r.tag) _ _ _ _ _ _ _ first tag)
    (rw (c.deref-2.ensures.value, c.in_err-add_stack.was) at c.add_stack.ensures))

pub returns-in_err-add_kept : goal.returns-in_err-add_kept
returns-in_err-add_kept g c =
    let p = err_from_is_err_and c.from_residual-in_err-add_kept.result c.from_residual-in_err-add_kept.ensures.1 in
    let r = c.args.replayed.now in
    let notes = flat_map note_line c.args.replayed.now.notes.items in
    let first = rw (c.deref.ensures.value, c.in_ok-add_notes.was) at c.add_notes.ensures in
    let tag = tagged g.K.Sink r.tag _ _ _ _ _ _ (c.as_str.ensures.value ∙ c.tag_piece.ensures) (rw c.in_ok-add.was at c.add.ensures) in
    let stack = rw (c.deref-2.ensures.value, c.in_ok-add_stack.was) at c.add_stack.ensures in
    rw p.1
    (text_failed g.K.Sink ((notes ++ tag_line r.tag) ++ stack_line r.stack.items) (kept_lines 0 r.kept.items) [] _ _ _ _ _ _ _
    c.in_err-add_kept.field-0.0 _ c.new-page.ensures (append-nil _)
    (adds_both g.K.Sink (notes ++ tag_line r.tag) (stack_line r.stack.items) _ _ _ _ _ _ _
    (adds_both g.K.Sink notes (tag_line r.tag) _ _ _ _ _ _ _ first tag) stack)
    (rw (c.deref-3.ensures.value, c.in_err-add_kept.was) at c.add_kept.ensures))

pub returns : goal.returns
returns g c =
    let r = c.args.replayed.now in
    let notes = flat_map note_line c.args.replayed.now.notes.items in
    let first = rw (c.deref.ensures.value, c.in_ok-add_notes.was) at c.add_notes.ensures in
    let tag = tagged g.K.Sink r.tag _ _ _ _ _ _ (c.as_str.ensures.value ∙ c.tag_piece.ensures) (rw c.in_ok-add.was at c.add.ensures) in
    let stack = rw (c.deref-2.ensures.value, c.in_ok-add_stack.was) at c.add_stack.ensures in
    let kept = rw (c.deref-3.ensures.value, c.in_ok-add_kept.was) at c.add_kept.ensures in
    text_written g.K.Sink
    (((notes ++ tag_line r.tag) ++ stack_line r.stack.items) ++ kept_lines 0 r.kept.items) _ _ _ _ _ _ c.new-page.ensures
    (adds_both g.K.Sink ((notes ++ tag_line r.tag) ++ stack_line r.stack.items) (kept_lines 0 r.kept.items) _ _ _ _ _ _ _
    (adds_both g.K.Sink (notes ++ tag_line r.tag) (stack_line r.stack.items) _ _ _ _ _ _ _
    (adds_both g.K.Sink notes (tag_line r.tag) _ _ _ _ _ _ _ first tag) stack) kept)
    c.finish.ensures
