use Rattle.std.proofs.Common.{◌<◌, subst, arith}
use Rattle.block_marks.specs.Marked.{Marked}
use Rattle.block_marks.proofs.Bits.{tests_one}
use Rattle.block_marks.proofs.marks.Marks.has.Goals as goal

pub returns-then-number-self : goal.returns-then-number-self
returns-then-number-self c =
    let less : c.args.number < c.self.inside.bound = omega (arith, c.if-number-self.true) in
    tests_one c.self.inside.bound c.self.inside.words.items _ c.args.number c.index.result.now c.self.view_is
    (subst (λ (marks : Marked). c.args.number < marks.bound) c.self.view_is less) c.self.invariant c.index.ensures
