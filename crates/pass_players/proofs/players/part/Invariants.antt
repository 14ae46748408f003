use Rattle.std.proofs.Common.{◌≤◌, length, vec_capacity}
use Rattle.std.specs.Vec.Iter.{into_iter_items}
use Rattle.pass_players.proofs.Parting.{MappedSoFar}
use Rattle.pass_players.proofs.players.part.Given as goal

-- the players so far were parted, and there is room for the others
abbrev pub invariant-loop-one : goal.invariant-loop-one
invariant-loop-one g l = record {
  passes : MappedSoFar (λ gated. gated.one.pass) l.fn.players.items (into_iter_items l.one-iterator) l.passes.items;
  outcomes : MappedSoFar (λ gated. g.P.Player.outcome gated.one.player) l.fn.players.items (into_iter_items l.one-iterator)
      l.outcomes.items;
  gates : MappedSoFar (λ gated. gated.gate) l.fn.players.items (into_iter_items l.one-iterator) l.gates.items;
  passes_room : length l.fn.players.items ≤ vec_capacity l.passes;
  outcomes_room : length l.fn.players.items ≤ vec_capacity l.outcomes;
  gates_room : length l.fn.players.items ≤ vec_capacity l.gates;
  no_less : vec_capacity l.initial.gates ≤ vec_capacity l.gates;
}
