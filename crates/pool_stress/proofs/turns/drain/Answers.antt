use Rattle.pool_stress.proofs.Turning.{none_gone, one_gone}
use Rattle.pool_stress.proofs.turns.drain.Goals as goal

pub loop-call-init : goal.loop-call-init
loop-call-init c = none_gone _ _ c.requires

pub loop-call-preserved : goal.loop-call-preserved
loop-call-preserved c = one_gone _ _ _ _ c.loop-call.invariant c.keep-got.ensures.pass
