use Rattle.std.proofs.Common.{◌≡◌, ap, ◌∙◌}
use Rattle.std.specs.Arc.{arc_value}
use Rattle.word_layout.specs.Sizes.{blocks}
use Rattle.block_pool.specs.Passing.{Pooled}
use Rattle.pool_member.proofs.Fitting.{fits_bare}
use Rattle.pool_member.proofs.member.Member.of.Goals as goal

pub invariant_of-result : goal.invariant_of-result
invariant_of-result c =
    let bound : c.in_ok-marks.marks.bound ≡ blocks (arc_value c.args.pool).sizes =
    c.in_ok-marks.ensures.bound ∙ c.blocks-2.ensures.value ∙ ap blocks (c.shape.ensures ∙ ap (λ (p : Pooled). p.sizes) c.deref.ensures) in
    fits_bare _ c.args.pass c.in_ok-marks.marks c.requires.pool c.requires.bare bound c.in_ok-marks.ensures.none
