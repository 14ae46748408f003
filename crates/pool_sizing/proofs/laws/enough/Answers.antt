use Rattle.pool_sizing.proofs.Enough.{enough_are_not_refused}
use Rattle.pool_sizing.proofs.laws.enough.Goals as goal

pub returns : goal.returns
returns c = enough_are_not_refused
