use Rattle.std.proofs.Common.{◌≡◌, ℕ, sym, ap, ◌∙◌, ◌∷◌}
use Rattle.pool_model.specs.History.{grip_after}
use Rattle.block_pool.specs.Calls.{entry_of}
use Rattle.block_pool.specs.declared.pool.Answer.{Answer}
use Rattle.pool_member.proofs.Fitting.{fits_got, fits_same}
use Rattle.pool_member.proofs.member.Member.search_young.Goals as goal

pub invariant_of-self : goal.invariant_of-self
invariant_of-self c =
    let held : c.search-answer.new.pass.held ≡ c.number.result ∷ c.self.inside.pass.held =
    c.search-answer.ensures.entry.held ∙ ap (λ (a : Answer). grip_after c.self.inside.pass.held
    (entry_of c.self.inside.pass.number a)) c.in-Got.is
    ∙ ap (λ (b : ℕ). b ∷ c.self.inside.pass.held) (sym c.number.ensures) in
    fits_got _ c.self.inside.pass c.search-answer.new.pass c.self.inside.marks c.set.new.self c.number.result c.self.invariant
    c.search-answer.ensures.pass c.set.ensures.bound c.set.ensures.others c.set.ensures.marked held

pub invariant_of-self-in-Dry : goal.invariant_of-self-in-Dry
invariant_of-self-in-Dry c =
    let held : c.search-answer.new.pass.held ≡ c.self.inside.pass.held =
    c.search-answer.ensures.entry.held ∙ ap (λ (a : Answer). grip_after c.self.inside.pass.held
    (entry_of c.self.inside.pass.number a)) c.in-Dry.is in
    fits_same _ c.self.inside.pass c.search-answer.new.pass c.self.inside.marks c.self.invariant c.search-answer.ensures.pass held
