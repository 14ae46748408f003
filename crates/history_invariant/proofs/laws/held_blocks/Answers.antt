use Rattle.history_invariant.proofs.Holding.{held_shared}
use Rattle.history_invariant.proofs.laws.held_blocks.Goals as goal

pub returns : goal.returns
returns c = held_shared
