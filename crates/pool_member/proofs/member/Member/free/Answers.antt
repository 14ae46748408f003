use Rattle.std.proofs.Common.{Contains, refl, sym, subst}
use Rattle.block_pool.specs.Passing.{Passed}
use Rattle.pool_member.proofs.Fitting.{fits_back, held_below}
use Rattle.pool_member.proofs.member.Member.free.Goals as goal

pub clear-requires : goal.clear-requires
clear-requires c =
    let held : Contains c.self.inside.pass.held c.args.block =
    subst (λ (p : Passed). Contains p.held c.args.block) (sym c.self.view_is) (c.if-not-holds.ensures.0 refl) in
    held_below _ c.self.inside.pass c.self.inside.marks c.args.block c.self.invariant held

pub invariant_of-self : goal.invariant_of-self
invariant_of-self c =
    fits_back _ c.self.inside.pass c.free.new.pass c.self.inside.marks c.clear.new.self c.args.block c.self.invariant c.free.ensures.pass
    c.clear.ensures.bound c.clear.ensures.others c.self.inside.pass.number c.clear.ensures.marked
    (rw c.block-token.ensures at c.free.ensures.entry.held)
