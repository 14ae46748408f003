use Rattle.std.proofs.Common.{◌∙◌}
use Rattle.std.proofs.lemmas.Result.{err_from_is_err_and}
use Rattle.text_pages.proofs.Pages.{adds_part}
use Rattle.text_pages.proofs.page.Page.add.Goals as goal

pub returns-in_err-write_whole : goal.returns-in_err-write_whole
returns-in_err-write_whole g c =
    let p = err_from_is_err_and c.from_residual.result c.from_residual.ensures.1 in
    let bytes = c.as_bytes.ensures.value ∙ c.as_str.ensures.value ∙ c.self.view_is in
    rw p.1 (adds_part g.K.Sink _ _ _ _ _ _ c.in_err-write_whole.field-0.0 _ bytes (rw c.in_err-write_whole.was at c.write_whole.ensures))
