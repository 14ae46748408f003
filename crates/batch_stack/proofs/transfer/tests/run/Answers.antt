use Rattle.batch_stack.proofs.Alone.{advances_on}
use Rattle.batch_stack.proofs.transfer.tests.run.Goals as goal

pub returns-then-not-is_going-clause-played : goal.returns-then-not-is_going-clause-played
returns-then-not-is_going-clause-played c =
    advances_on _ _ _ _ _ _ _ _ _ c.loop-made.invariant.0.1 c.loop-made.invariant.1 c.advance-progress.ensures.played
