use Rattle.pool_machine.proofs.Plans.{met_fits}
use Rattle.pool_machine.proofs.tests.step.Goals as goal

pub returns : goal.returns
returns g c = rw c.step_call.ensures.view (met_fits c.args.shape.now c.args.view.now _ c.requires)
