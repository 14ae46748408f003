use Rattle.interleaving_core.proofs.StateLaws.{answers_stay}
use Rattle.interleaving_core.proofs.laws.states.answers.Goals as goal

pub returns : goal.returns
returns c = answers_stay
