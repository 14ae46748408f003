use Rattle.std.proofs.Common.{Some, map, refl, ap, ◌∙◌, inl}
use Rattle.loskebri_c.proofs.Filling.{some_each}
use Rattle.loskebri_c.proofs.opening.fill.Goals as goal

pub returns-in-Ok : goal.returns-in-Ok
returns-in-Ok c = inl (refl, c.open_with.ensures ∙ some_each (λ boxed. boxed.value) c.in-Ok.boxes.items ∙ ap (map Some) c.in-Ok.ensures)
