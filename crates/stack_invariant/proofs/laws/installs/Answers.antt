use Rattle.stack_invariant.proofs.Follows.{installed_next}
use Rattle.stack_invariant.proofs.laws.installs.Goals as goal

pub returns : goal.returns
returns c = installed_next
