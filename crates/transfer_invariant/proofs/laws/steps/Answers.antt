use Rattle.transfer_invariant.proofs.Gathered.{steps_keep_invariant}
use Rattle.transfer_invariant.proofs.laws.steps.Goals as goal

pub returns : goal.returns
returns c = steps_keep_invariant
