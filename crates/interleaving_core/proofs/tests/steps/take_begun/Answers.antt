use Rattle.interleaving_core.proofs.Surface.{first_take}
use Rattle.interleaving_core.proofs.tests.steps.take_begun.Goals as goal

pub returns-clause-invariant : goal.returns-clause-invariant
returns-clause-invariant c =
    rw (c.begin_transfer.ensures, c.open-view.ensures)
    (first_take c.args.shape.now _ c.processes.ensures.shape c.in_ok-words.ensures)
