use Rattle.interleaving_core.proofs.tests.steps.begun_take.Goals as goal

pub make_steps-requires-clause-invariant : goal.make_steps-requires-clause-invariant
make_steps-requires-clause-invariant g c = rw c.deref_mut.ensures.value c.in_ok-words.ensures.invariant
