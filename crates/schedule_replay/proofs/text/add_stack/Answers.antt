use Rattle.std.proofs.Common.{◌++◌, ◌∙◌, codes, append_assoc, subst, Err}
use Rattle.std.specs.Prelude.{flat_map}
use Rattle.std.proofs.lemmas.Result.{err_from_is_err_and}
use Rattle.text_pages.proofs.Pages.{adds_both, adds_no_more}
use Rattle.schedule_replay.specs.Text.{head_text}
use Rattle.schedule_replay.proofs.text.add_stack.Goals as goal

pub returns-in_err-add : goal.returns-in_err-add
returns-in_err-add g c =
    let p = err_from_is_err_and c.from_residual.result c.from_residual.ensures.1 in
    rw p.1
    (adds_no_more g.K.Sink (codes "stack") (flat_map head_text c.args.stack.now ++ codes "\n") _ _ _ _ _ c.in_err-add.field-0.0 _
    (rw c.in_err-add.was at c.add.ensures))

pub returns-in_err-add_heads : goal.returns-in_err-add_heads
returns-in_err-add_heads g c =
    let p = err_from_is_err_and c.from_residual-in_err-add_heads.result c.from_residual-in_err-add_heads.ensures.1 in
    rw p.1
    (adds_both g.K.Sink (codes "stack") (flat_map head_text c.args.stack.now ++ codes "\n") _ _ _ _ _ _ _
    (rw c.in_ok-add.was at c.add.ensures)
    (adds_no_more g.K.Sink (flat_map head_text c.args.stack.now) (codes "\n") _ _ _ _ _ c.in_err-add_heads.field-0.0 _
    (rw c.in_err-add_heads.was at c.add_heads.ensures)))

pub returns : goal.returns
returns g c =
    adds_both g.K.Sink (codes "stack") (flat_map head_text c.args.stack.now ++ codes "\n") _ _ _ _ _ _ _
    (rw c.in_ok-add.was at c.add.ensures)
    (adds_both g.K.Sink (flat_map head_text c.args.stack.now) (codes "\n") _ _ _ _ _ _ _ (rw c.in_ok-add_heads.was at c.add_heads.ensures)
    c.add-2.ensures)
