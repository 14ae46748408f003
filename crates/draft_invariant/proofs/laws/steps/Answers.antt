use Rattle.draft_invariant.proofs.Keeps.{steps_keep}
use Rattle.draft_invariant.proofs.laws.steps.Goals as goal

pub returns : goal.returns
returns c = steps_keep
