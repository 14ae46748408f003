use Rattle.stack_invariant.proofs.Keeps.{opening_meets}
use Rattle.stack_invariant.proofs.laws.opening.Goals as goal

pub returns : goal.returns
returns c = opening_meets
