use Rattle.std.proofs.Common.{◌≡◌, ◌+◌, ◌≤◌, ◌++◌, length, vec_capacity}
use Rattle.std.specs.Vec.Iter.{into_iter_items}
use Rattle.pass_players.proofs.players.put_back.Given as goal

-- the gates so far stand behind the others, and there is room for the rest
abbrev pub invariant-loop-gate : goal.invariant-loop-gate
invariant-loop-gate g l = record {
  gates : l.gates.items ++ into_iter_items l.gate-iterator ≡ l.initial.gates.items ++ into_iter_items l.fn.rest;
  room : length l.gates.items + length (into_iter_items l.gate-iterator) ≤ vec_capacity l.gates;
}
