use Rattle.history_invariant.proofs.Holding.{opening_holds}
use Rattle.history_invariant.proofs.laws.opening.Goals as goal

pub returns : goal.returns
returns c = opening_holds
