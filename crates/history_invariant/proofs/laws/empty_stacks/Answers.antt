use Rattle.history_invariant.proofs.Unheld.{few_unheld}
use Rattle.history_invariant.proofs.laws.empty_stacks.Goals as goal

pub returns : goal.returns
returns c = few_unheld
