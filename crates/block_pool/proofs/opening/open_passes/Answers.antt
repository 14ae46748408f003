use Rattle.std.proofs.Common.{◌≡◌, ◌<◌, ◌^◌, rules, ap, ◌∙◌, sym, subst, arith}
use Rattle.std.specs.Vec.Iter.{into_iter_items}
use Rattle.word_layout.specs.Sizes.{Sizes}
use Rattle.block_pool.proofs.Opened.{PassesMade, none_made, next_is_low, next_is_opening, one_made, all_made}
use Rattle.block_pool.proofs.opening.open_passes.Goals as goal

pub loop-seat-init : goal.loop-seat-init
loop-seat-init c =
    let same : into_iter_items c.into_iter-seat-iterator.result ≡ c.args.seats.items =
    c.into_iter-seat-iterator.ensures.into_iter_gives.0 in
    subst (λ rest. PassesMade c.args.pool.now.table c.args.pool.now.sizes rest c.in_ok-passes.passes.items)
    (sym same)
    (none_made _ _ _ _ c.requires.seats c.in_ok-passes.ensures.items)

pub overflow_cast-number : goal.overflow_cast-number
overflow_cast-number c =
    let low = next_is_low _ _ _ _ _ _ _ c.loop-seat.invariant c.in-Some.ensures.steps.0 (c.len-number.ensures ∙ c.loop-seat.passes.ok.0) in
    let fits : c.len-number.result < 2 ^ 32 =
    omega (arith, low, c.processes-processes.ensures.value, ap (λ (s : Sizes). s.processes) c.shape.ensures) in
    search rules

pub open_pass-requires-clause-process : goal.open_pass-requires-clause-process
open_pass-requires-clause-process c =
    let low = next_is_low _ _ _ _ _ _ _ c.loop-seat.invariant c.in-Some.ensures.steps.0 (c.len-number.ensures ∙ c.loop-seat.passes.ok.0) in
    omega (arith, low, ap (λ (s : Sizes). s.processes) c.shape-in-loop-seat.ensures)

pub open_pass-requires-clause-seat : goal.open_pass-requires-clause-seat
open_pass-requires-clause-seat c = next_is_opening _ _ _ _ _ _ _ _ c.loop-seat.invariant c.in-Some.ensures.steps.0
    (c.len-number.ensures ∙ c.loop-seat.passes.ok.0) c.shape-in-loop-seat.ensures

pub loop-seat-preserved : goal.loop-seat-preserved
loop-seat-preserved c =
    subst (PassesMade c.args.pool.now.table c.args.pool.now.sizes (into_iter_items c.next.new.self)) (sym c.in_ok-push.ensures.items)
    (one_made _ _ _ _ _ _ _ _ _ c.loop-seat.invariant c.in-Some.ensures.steps.0
    (c.len-number.ensures ∙ c.loop-seat.passes.ok.0) c.shape-in-loop-seat.ensures c.open_pass.ensures)

pub returns : goal.returns
returns c = all_made _ _ _ c.loop-seat.invariant (sym c.loop-seat.seat-iterator.rest.ok.0 ∙ c.in-None.ensures.steps.0)
