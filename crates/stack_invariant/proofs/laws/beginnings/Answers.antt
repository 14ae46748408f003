use Rattle.stack_invariant.proofs.Keeps.{beginnings_keep_stack}
use Rattle.stack_invariant.proofs.laws.beginnings.Goals as goal

pub returns : goal.returns
returns c = beginnings_keep_stack
