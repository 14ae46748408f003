use Rattle.transfer_invariant.proofs.Gathered.{beginnings_keep_invariant}
use Rattle.transfer_invariant.proofs.laws.beginnings.Goals as goal

pub returns : goal.returns
returns c = beginnings_keep_invariant
