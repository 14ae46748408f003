use Rattle.pool_fit.proofs.Unrefused.{least_pools}
use Rattle.pool_fit.proofs.laws.least_pools_refuse_nothing.Goals as goal

pub returns : goal.returns
returns c = least_pools
