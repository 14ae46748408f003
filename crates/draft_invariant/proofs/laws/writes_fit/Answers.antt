use Rattle.draft_invariant.proofs.Gives.{writes_fit}
use Rattle.draft_invariant.proofs.laws.writes_fit.Goals as goal

pub returns : goal.returns
returns c = writes_fit
