use Rattle.std.proofs.Common.{◌≡◌}
use Rattle.transfer_schedule.proofs.tests.make_run.Given as goal

abbrev pub invariant-loop-call : goal.invariant-loop-call
invariant-loop-call g l = (l.plan.quantum ≡ 8) × (l.plan.bound ≡ l.initial.plan.bound)
