use Rattle.stack_invariant.proofs.Emptied.{states_are_blocks}
use Rattle.stack_invariant.proofs.laws.states.Goals as goal

pub returns : goal.returns
returns c = states_are_blocks
