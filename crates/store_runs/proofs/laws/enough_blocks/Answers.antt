use Rattle.store_runs.proofs.Enough as enough
use Rattle.store_runs.proofs.laws.enough_blocks.Goals as goal

pub returns : goal.returns
returns c = enough.enough_blocks
