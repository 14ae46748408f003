use Rattle.pool_machine.specs.Ready.{PlanFits}
use Rattle.pool_machine.proofs.tests.at_the_ages_end.Given as goal

abbrev pub invariant-loop-call : goal.invariant-loop-call
invariant-loop-call g l = PlanFits l.shape l.view.pool.plan
