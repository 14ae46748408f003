use Rattle.std.proofs.Common.{arith, ap, ◌∙◌, append-nil, ◌≡◌, ℕ, List, [], ◌∷◌, ◌++◌, sym, subst}
use Rattle.pool_model.specs.declared.entry.Entry.TheVariants.{Dry}
use Rattle.pool_model.specs.Plain.{IsLeftBy, Plain}
use Rattle.pool_model.proofs.PlainSteps.{kept_pop, gives_last, gives_next, not_full, left_by_got, left_by_dry}
use Rattle.pool_model.proofs.plain_pool.PlainPool.get.Goals as goal

pub invariant_of-self : goal.invariant_of-self
invariant_of-self c =
    rw c.pop.ensures.capacity (kept_pop c.self.inside.blocks c.self.inside.given _ c.self.inside.returned.items _ c.in-Some.block
    c.in-Some.ensures.items c.self.invariant)

pub returns-in-Some-clause-full : goal.returns-in-Some-clause-full
returns-in-Some-clause-full c =
    rw (← c.self.view_is) (
      (λ e. cc),
      λ full. absurd (not_full c.self.inside.blocks c.self.inside.given _ c.self.inside.returned.items _
          c.in-Some.block c.in-Some.ensures.items c.self.invariant full),
    )

pub returns-in-Some-clause-some : goal.returns-in-Some-clause-some
returns-in-Some-clause-some c =
    rw (← c.self.view_is) (gives_last c.self.inside.blocks c.self.inside.given _ c.self.inside.returned.items _ c.in-Some.block
    c.in-Some.ensures.items c.self.invariant)

pub returns-in-Some-clause-history : goal.returns-in-Some-clause-history
returns-in-Some-clause-history c past left =
    left_by_got past c.args.by c.in-Some.block c.args.self.now _ left (returns-in-Some-clause-some c)

pub returns-then-self-clause-history : goal.returns-then-self-clause-history
returns-then-self-clause-history c past left =
    let same : c.self.inside.returned.items ≡ c.pop.new.self.items = c.in_default.ensures.items ∙ append-nil _ in
    let at : List ℕ → Plain = λ bs. record { blocks = c.self.inside.blocks; given = c.self.inside.given; returned = bs } in
    subst (λ (pool : Plain). IsLeftBy (past ++ Dry c.args.by ∷ []) pool) (sym c.self.view_is ∙ ap at same)
    (left_by_dry past c.args.by c.args.self.now left)

pub returns-clause-history : goal.returns-clause-history
returns-clause-history c past left =
    let same : c.self.inside.returned.items ≡ c.pop.new.self.items = c.in_default.ensures.items ∙ append-nil _ in
    left_by_got past c.args.by c.self.inside.given c.args.self.now _ left
    (gives_next c.self.inside.blocks c.self.inside.given _ _ _ c.args.self.now c.self.view_is same
    (omega (arith, c.if-self.false, c.self.invariant.within)) c.self.invariant)
