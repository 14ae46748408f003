use Rattle.stack_invariant.proofs.Follows.{can_be_made}
use Rattle.stack_invariant.proofs.laws.steps_can_be_made.Goals as goal

pub returns : goal.returns
returns c = can_be_made
