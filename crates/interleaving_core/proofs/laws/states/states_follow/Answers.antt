use Rattle.interleaving_core.proofs.StateLaws.{states_follow}
use Rattle.interleaving_core.proofs.laws.states.states_follow.Goals as goal

pub returns : goal.returns
returns c = states_follow
