use Rattle.stack_invariant.proofs.Follows.{replies_answer}
use Rattle.stack_invariant.proofs.laws.answers.Goals as goal

pub returns : goal.returns
returns c = replies_answer
