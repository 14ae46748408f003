use Rattle.std.proofs.Common.{refl}
use Rattle.batch_stack.proofs.Alone.{take_goes}
use Rattle.batch_stack.proofs.transfer.tests.begin_take.Goals as goal

pub returns-clause-goes : goal.returns-clause-goes
returns-clause-goes g c = take_goes _ _ _ c.requires.rests c.requires.few (c.if-not-is_young.ensures.0 refl) c.begin_take.ensures
