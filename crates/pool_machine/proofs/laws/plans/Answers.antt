use Rattle.pool_machine.proofs.Plans.{choice_is_the_plans, due_begins, own_plan}
use Rattle.pool_machine.proofs.laws.plans.Goals as goal

pub returns-clause-choices : goal.returns-clause-choices
returns-clause-choices c v = choice_is_the_plans v

pub returns-clause-due : goal.returns-clause-due
returns-clause-due c v wish h e = due_begins v wish h e

pub returns-clause-own_steps : goal.returns-clause-own_steps
returns-clause-own_steps c v word = own_plan word v.pool v.calls.call
