use Rattle.stack_invariant.proofs.Emptied.{empty_takes_met_nothing}
use Rattle.stack_invariant.proofs.laws.empty_takes.Goals as goal

pub returns : goal.returns
returns c = empty_takes_met_nothing
