use Rattle.interleaving_core.proofs.Surface.{among_goes_on}
use Rattle.interleaving_core.proofs.tests.steps.step.Goals as goal

pub returns-clause-invariant : goal.returns-clause-invariant
returns-clause-invariant g c =
    among_goes_on c.args.shape.now c.args.words.now _ c.args.view.now _ _ c.requires.invariant c.core_step.ensures.view
    c.core_step.ensures.invariant
