use Rattle.std.proofs.Common.{arith, ◌≡◌, ◌<◌, length, [], ◌∷◌, ◌++◌, sym, subst}
use Rattle.pool_model.specs.Plain.{IsHeld, Plain}
use Rattle.pool_model.proofs.PlainSteps.{has_room, kept_push, takes_back, left_by_back}
use Rattle.pool_model.proofs.plain_pool.PlainPool.back.Goals as goal

pub unwrap-requires : goal.unwrap-requires
unwrap-requires c =
    let P : Plain → Type 0 = λ pool. IsHeld pool c.args.block in
    let held : P (record { blocks = c.self.inside.blocks; given = c.self.inside.given; returned = c.self.inside.returned.items }) =
    subst P (sym c.self.view_is) c.requires in
    let room : length c.self.inside.returned.items < _ =
    has_room c.self.inside.blocks c.self.inside.given _ c.self.inside.returned.items c.args.block held.0 held.1 c.self.invariant in
    grind arith

pub invariant_of-self : goal.invariant_of-self
invariant_of-self c =
    let P : Plain → Type 0 = λ pool. IsHeld pool c.args.block in
    let held : P (record { blocks = c.self.inside.blocks; given = c.self.inside.given; returned = c.self.inside.returned.items }) =
    subst P (sym c.self.view_is) c.requires in
    let pushed : c.push.new.self.items ≡ c.self.inside.returned.items ++ c.args.block ∷ [] = rw c.unwrap.ensures at c.push.ensures.items in
    rw pushed (kept_push c.self.inside.blocks c.self.inside.given _ _ c.self.inside.returned.items c.args.block c.push.ensures.capacity
    held.0 held.1 c.self.invariant)

pub returns-clause-returned : goal.returns-clause-returned
returns-clause-returned c =
    let pushed : c.push.new.self.items ≡ c.self.inside.returned.items ++ c.args.block ∷ [] = rw c.unwrap.ensures at c.push.ensures.items in
    rw (← c.self.view_is, pushed)

pub returns-clause-freed : goal.returns-clause-freed
returns-clause-freed c =
    let pushed : c.push.new.self.items ≡ c.self.inside.returned.items ++ c.args.block ∷ [] = rw c.unwrap.ensures at c.push.ensures.items in
    rw (← c.self.view_is, pushed) (takes_back c.self.inside.blocks c.self.inside.given c.self.inside.returned.items c.args.block)

pub returns-clause-history : goal.returns-clause-history
returns-clause-history c past left = left_by_back past c.args.by c.args.block c.args.self.now _ left (returns-clause-freed c)
