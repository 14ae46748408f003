use Rattle.interleaving_core.proofs.Due.{steps_keep_invariant}
use Rattle.interleaving_core.proofs.laws.steps.steps_keep_invariant.Goals as goal

pub returns : goal.returns
returns c = steps_keep_invariant
