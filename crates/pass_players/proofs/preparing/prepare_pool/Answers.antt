use Rattle.block_pool.proofs.Ordered.{opened_are_in_order}
use Rattle.pass_players.proofs.Settling.{may_play_together}
use Rattle.pass_players.proofs.preparing.prepare_pool.Goals as goal

pub prepare-requires-clause-passes : goal.prepare-requires-clause-passes
prepare-requires-clause-passes g c =
    opened_are_in_order c.in_ok-pool.pool c.in_ok-pool.passes.items c.in_ok-pool.ensures.passes

pub prepare-requires-clause-may : goal.prepare-requires-clause-may
prepare-requires-clause-may g c =
    may_play_together c.in_ok-pool.pool c.in_ok-pool.passes.items c.args.scripts.now c.in_ok-pool.ensures.passes g.P.Player.suits
    g.P.Player.most_calls c.args.shape.now c.in_ok-pool.ensures.shape c.requires.one_each c.requires.playable
