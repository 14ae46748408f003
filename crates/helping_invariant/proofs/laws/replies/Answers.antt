use Rattle.helping_invariant.proofs.Consequences.{answered}
use Rattle.helping_invariant.proofs.laws.replies.Goals as goal

pub returns : goal.returns
returns c = answered
