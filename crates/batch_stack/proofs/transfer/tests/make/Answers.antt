use Rattle.batch_stack.proofs.Alone.{advances_on}
use Rattle.batch_stack.proofs.transfer.tests.make.Goals as goal

pub returns-then-not-is_going-clause-played : goal.returns-then-not-is_going-clause-played
returns-then-not-is_going-clause-played g c =
    advances_on _ _ _ _ _ _ _ _ _ c.loop-index.invariant.0.1 c.loop-index.invariant.1 c.step-made.ensures.played
