use Rattle.interleaving_core.proofs.StateLaws.{loads_in_range}
use Rattle.interleaving_core.proofs.laws.states.loads.Goals as goal

pub returns : goal.returns
returns c = loads_in_range
