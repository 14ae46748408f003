use Rattle.interleaving_core.proofs.DataSteps.{steps_tell_data, steps_keep_data}
use Rattle.interleaving_core.proofs.laws.steps.steps_tell_data.Goals as goal

pub returns-clause-told : goal.returns-clause-told
returns-clause-told c = steps_tell_data

pub returns-clause-kept : goal.returns-clause-kept
returns-clause-kept c = steps_keep_data
