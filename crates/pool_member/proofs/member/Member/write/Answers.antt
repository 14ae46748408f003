use Rattle.std.proofs.Common.{sym, subst}
use Rattle.std.specs.Arc.{arc_value}
use Rattle.block_pool.specs.Passing.{Passed}
use Rattle.pool_member.specs.Fitting.{FitsPool}
use Rattle.pool_member.proofs.Fitting.{fits_moved}
use Rattle.pool_member.proofs.member.Member.write.Goals as goal

pub invariant_of-self : goal.invariant_of-self
invariant_of-self c =
    subst (λ (p : Passed). FitsPool (arc_value c.self.inside.pool) p c.self.inside.marks) (sym c.write.ensures.pass)
    (fits_moved _ c.self.inside.pass c.self.inside.marks _ _ c.self.invariant)
