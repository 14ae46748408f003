use Rattle.pool_stress.proofs.Turning.{HasGone}
use Rattle.pool_stress.proofs.turns.drain.Given as goal

abbrev pub invariant-loop-call : goal.invariant-loop-call
invariant-loop-call l = HasGone l.pool l.fn.pass l.pass
