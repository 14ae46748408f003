use Rattle.interleaving_core.proofs.Conditions.{calls_meet_conditions}
use Rattle.interleaving_core.proofs.laws.steps.calls_meet_conditions.Goals as goal

pub returns : goal.returns
returns c = calls_meet_conditions
