use Rattle.interleaving_core.proofs.StateLaws.{empty_takes}
use Rattle.interleaving_core.proofs.laws.states.empty_takes.Goals as goal

pub returns : goal.returns
returns c = empty_takes
