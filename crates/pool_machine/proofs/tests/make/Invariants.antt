use Rattle.pool_machine.specs.Ready.{PlanFits}
use Rattle.pool_machine.proofs.tests.make.Given as goal

abbrev pub invariant-loop-steps : goal.invariant-loop-steps
invariant-loop-steps g l = PlanFits l.shape l.view.pool.plan
