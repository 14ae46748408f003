use Rattle.transfer_invariant.proofs.Gathered.{opening_meets_invariant}
use Rattle.transfer_invariant.proofs.laws.opening.Goals as goal

pub returns : goal.returns
returns c = opening_meets_invariant
