use Rattle.std.proofs.Common.{◌≡◌, ◌<◌, ◌*◌, ◌^◌, refl, inl, arith}
use Rattle.word_layout.specs.declared.fault.ShapeFault.TheVariants.{ManyProcesses}
use Rattle.loskebri_c.proofs.Filling.{many_first}
use Rattle.loskebri_c.proofs.sizing.fault_of_none.Goals as goal

pub returns-in_default : goal.returns-in_default
returns-in_default c =
    let same : c.from.result ≡ c.args.processes = c.from.ensures in
    let no : 2 * c.from.result < 2 ^ 32 → ⊥ = c.in_default.ensures in
    let many : 32 < c.args.processes = omega (arith, same, no) in
    inl (ManyProcesses, refl, many_first _ _ _ _ many)
