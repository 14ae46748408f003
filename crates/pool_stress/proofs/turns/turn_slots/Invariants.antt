use Rattle.std.proofs.Common.{length}
use Rattle.pool_stress.proofs.Turning.{HasTurned}
use Rattle.pool_stress.proofs.turns.turn_slots.Given as goal

abbrev pub invariant-loop-call : goal.invariant-loop-call
invariant-loop-call l = HasTurned l.pool l.fn.pass l.pass (length l.fn.slots) l.slots
