use Rattle.std.proofs.Common.{arith}
use Rattle.pass_players.proofs.Parting.{mapped_few}
use Rattle.pass_players.proofs.players.part.Goals as goal

pub unwrap-requires : goal.unwrap-requires
unwrap-requires g c =
    let few = mapped_few _ c.args.players.items _ _ _ _ c.loop-one.invariant.passes c.in-Some.ensures.steps.0 in
    c.push.ensures.succeeds (omega (arith, few, c.loop-one.passes.ok.0, c.loop-one.invariant.passes_room))

pub unwrap-requires-in-loop-one : goal.unwrap-requires-in-loop-one
unwrap-requires-in-loop-one g c =
    let few = mapped_few _ c.args.players.items _ _ _ _ c.loop-one.invariant.outcomes c.in-Some.ensures.steps.0 in
    c.push-in-loop-one.ensures.succeeds (omega (arith, few, c.loop-one.outcomes.ok.0, c.loop-one.invariant.outcomes_room))

pub unwrap-requires-in-loop-one-2 : goal.unwrap-requires-in-loop-one-2
unwrap-requires-in-loop-one-2 g c =
    let few = mapped_few _ c.args.players.items _ _ _ _ c.loop-one.invariant.gates c.in-Some.ensures.steps.0 in
    c.push-in-loop-one-2.ensures.succeeds (omega (arith, few, c.loop-one.gates.ok.0, c.loop-one.invariant.gates_room))
