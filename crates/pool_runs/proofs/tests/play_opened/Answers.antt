use Rattle.std.proofs.Common.{arith}
use Rattle.block_pool.proofs.Ordered.{opened_are_in_order}
use Rattle.pass_players.proofs.Settling.{may_play_together}
use Rattle.pool_runs.proofs.Playable.{all_over}
use Rattle.pool_runs.proofs.tests.play_opened.Goals as goal

pub prepare-requires-clause-passes : goal.prepare-requires-clause-passes
prepare-requires-clause-passes g c = opened_are_in_order _ _ c.in_ok-pool.ensures.passes

pub prepare-requires-clause-may : goal.prepare-requires-clause-may
prepare-requires-clause-may g c =
    may_play_together _ _ _ c.in_ok-pool.ensures.passes _ _ _ c.in_ok-pool.ensures.shape c.requires.one_each
    (all_over _ _ (omega (arith, c.most_age-age.ensures.value, c.most_age-age.ensures.many)) c.requires.playable)
