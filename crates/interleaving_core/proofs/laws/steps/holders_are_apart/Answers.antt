use Rattle.interleaving_core.proofs.DataSteps.{holders_are_apart}
use Rattle.interleaving_core.proofs.laws.steps.holders_are_apart.Goals as goal

pub returns : goal.returns
returns c = holders_are_apart
