use Rattle.std.specs.Vec.Iter.{into_iter_items}
use Rattle.pass_players.proofs.Gathering.{Gathering}
use Rattle.pass_players.proofs.players.gather.Given as goal

-- the passes so far have their players
abbrev pub invariant-loop-pass : goal.invariant-loop-pass
invariant-loop-pass g l = Gathering g.P.Player.is_ready l.fn.passes.items (into_iter_items l.pass-iterator) l.scripts l.players.items
