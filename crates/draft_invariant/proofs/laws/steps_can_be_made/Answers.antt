use Rattle.draft_invariant.proofs.Gives.{steps_can_be_made}
use Rattle.draft_invariant.proofs.laws.steps_can_be_made.Goals as goal

pub returns : goal.returns
returns c = steps_can_be_made
