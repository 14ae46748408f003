use Rattle.stack_invariant.proofs.Changes.{steps_move_content}
use Rattle.stack_invariant.proofs.laws.changes.Goals as goal

pub returns : goal.returns
returns c = steps_move_content
