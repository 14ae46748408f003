use Rattle.enough_blocks.proofs.Enough as enough
use Rattle.enough_blocks.proofs.enough_blocks.Goals as goal

pub returns : goal.returns
returns c = enough.enough_blocks
