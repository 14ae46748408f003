use Rattle.batch_stack.proofs.Alone.{alone_acts}
use Rattle.batch_stack.proofs.transfer.tests.step.Goals as goal

pub next_word-place-requires : goal.next_word-place-requires
next_word-place-requires c = alone_acts _ _ _ c.requires.goes
