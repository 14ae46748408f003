use Rattle.interleaving_core.proofs.DataSteps.{steps_enter_own}
use Rattle.interleaving_core.proofs.laws.steps.steps_enter_own.Goals as goal

pub returns : goal.returns
returns c = steps_enter_own
