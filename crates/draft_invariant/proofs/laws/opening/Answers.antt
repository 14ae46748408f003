use Rattle.draft_invariant.proofs.Keeps.{opening_holds}
use Rattle.draft_invariant.proofs.laws.opening.Goals as goal

pub returns : goal.returns
returns c = opening_holds
