use Rattle.helping_invariant.proofs.Keeps.{steps_keep_helping}
use Rattle.helping_invariant.proofs.laws.steps.Goals as goal

pub returns : goal.returns
returns c = steps_keep_helping
