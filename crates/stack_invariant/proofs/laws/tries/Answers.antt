use Rattle.stack_invariant.proofs.Follows.{tries_apply}
use Rattle.stack_invariant.proofs.laws.tries.Goals as goal

pub returns : goal.returns
returns c = tries_apply
