use Rattle.std.proofs.Common.{◌<◌, ◌^◌, length, refl, inr, arith}
use Rattle.word_layout.specs.declared.fault.ShapeFault.TheVariants.{ManyProcesses}
use Rattle.pool_member.specs.declared.opening.OpenFault.TheVariants.{Shape}
use Rattle.loskebri_c.proofs.Filling.{many_first}
use Rattle.loskebri_c.proofs.opening.loskebri_open.Goals as goal

pub returns-in_default : goal.returns-in_default
returns-in_default c =
    let no : length c.args.passes.now < 2 ^ 32 → ⊥ = c.in_default.ensures in
    let many : 32 < length c.args.passes.now = omega (arith, no) in
    inr (refl, (Shape ManyProcesses, refl, many_first _ _ _ _ many))
