use Rattle.std.proofs.Common.{◌≡◌, ◌≤◌, ◌++◌, length, map, vec_capacity}
use Rattle.std.specs.Vec.Iter.{into_iter_items}
use Rattle.pass_players.proofs.players.seat.Given as goal

-- the players so far have the first gates, in their order, and there is room for the others
abbrev pub invariant-loop-one : goal.invariant-loop-one
invariant-loop-one g l = record {
  players : map (λ gated. gated.one) l.gated.items ++ into_iter_items l.one-iterator ≡ l.fn.players.items;
  gates : map (λ gated. gated.gate) l.gated.items ++ into_iter_items l.gates ≡ into_iter_items l.initial.gates;
  room : length l.fn.players.items ≤ vec_capacity l.gated;
}
