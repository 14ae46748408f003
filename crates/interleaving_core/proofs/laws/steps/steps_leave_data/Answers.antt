use Rattle.interleaving_core.proofs.DataSteps.{steps_leave_data}
use Rattle.interleaving_core.proofs.laws.steps.steps_leave_data.Goals as goal

pub returns : goal.returns
returns c = steps_leave_data
