use Rattle.std.proofs.Common.{◌≡◌, ◌+◌, ◌*◌}
use Rattle.transfer_schedule.proofs.tests.play.Given as goal

abbrev pub invariant-loop : goal.invariant-loop
invariant-loop g l = (l.plan.quantum ≡ 8) × (l.plan.bound ≡ 16 * l.fn.processes + 15)

abbrev pub invariant-loop-run : goal.invariant-loop-run
invariant-loop-run g l = (l.plan.quantum ≡ 8) × (l.plan.bound ≡ 16 * l.fn.processes + 15)
