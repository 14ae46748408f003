use Rattle.std.proofs.Common.{◌<◌, ◌+◌, ◌^◌, rules, ap, ◌∙◌, sym, subst, arith}
use Rattle.std.specs.Vec.Iter.{into_iter_items}
use Rattle.word_layout.specs.Sizes.{IsShape}
use Rattle.block_pool.specs.Passing.{Pooled}
use Rattle.block_pool.proofs.Joined.{IsJoining, first_kept, next_is_of, next_is_few, one_joined, all_joined}
use Rattle.block_pool.proofs.closing.join_passes.Goals as goal

pub loop-pass-init : goal.loop-pass-init
loop-pass-init c =
    let shape = subst (λ (pool : Pooled). IsShape pool.sizes) c.pool.view_is c.processes.ensures.shape in
    subst (λ it. IsJoining c.args.pool.now c.args.passes.items (into_iter_items it) c.new-steps.result c.first.inside.process.seat
    c.first.inside.holding)
    (sym c.into_iter-pass-iterator.ensures.into_iter_gives)
    (first_kept _ _ _ _ _ c.first.inside.process _ _ shape c.requires (sym c.into_iter-further.ensures.rest ∙ c.in-Some.ensures.items)
    (sym c.first.view_is) c.first.invariant (c.new-steps.ensures ∙ c.new.ensures))

pub overflow_add-held : goal.overflow_add-held
overflow_add-held c =
    let few = next_is_few _ _ _ _ _ _ _ c.pass.inside.process _ _ _ c.loop-pass.invariant c.in-Some-pass.ensures.steps.0
    c.pass.invariant in
    let fits : c.loop-pass.held + c.pass.inside.holding < 2 ^ 32 = omega (arith, few) in
    search rules

pub join_seats-requires-clause-other : goal.join_seats-requires-clause-other
join_seats-requires-clause-other c =
    let is_of = next_is_of _ _ _ _ _ _ c.pass.inside.process _ _ c.loop-pass.invariant c.in-Some-pass.ensures.steps.0
    (sym c.pass.view_is) in
    is_of.table ∙ ap (λ (pool : Pooled). pool.table) (sym c.pool.view_is)

pub loop-pass-preserved : goal.loop-pass-preserved
loop-pass-preserved c =
    one_joined _ _ _ _ _ _ _ _ c.pass.inside.process _ _ _ _ c.loop-pass.invariant c.in-Some-pass.ensures.steps.0 (sym c.pass.view_is)
    c.pass.invariant c.join_seats.ensures.seat c.join_seats.ensures.steps c.join_seats.ensures.joined

pub returns : goal.returns
returns c = all_joined _ _ _ _ _ _ c.loop-pass.invariant (sym c.loop-pass.pass-iterator.rest.ok.0 ∙ c.in-None.ensures.steps.0)
