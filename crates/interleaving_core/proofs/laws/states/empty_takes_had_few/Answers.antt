use Rattle.interleaving_core.proofs.StateLaws.{empty_takes_had_few}
use Rattle.interleaving_core.proofs.laws.states.empty_takes_had_few.Goals as goal

pub returns : goal.returns
returns c = empty_takes_had_few
