use Rattle.chain_invariant.proofs.Places.{one_place, no_place}
use Rattle.chain_invariant.proofs.laws.once.Goals as goal

pub returns : goal.returns
returns c sizes words s views batch_blocks current_blocks held_blocks block hold = (
  one_place sizes words s views batch_blocks current_blocks held_blocks hold block,
  no_place sizes words s views batch_blocks current_blocks held_blocks hold block,
)
