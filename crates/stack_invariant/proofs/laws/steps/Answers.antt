use Rattle.stack_invariant.proofs.Keeps.{steps_keep_stack}
use Rattle.stack_invariant.proofs.laws.steps.Goals as goal

pub returns : goal.returns
returns c = steps_keep_stack
