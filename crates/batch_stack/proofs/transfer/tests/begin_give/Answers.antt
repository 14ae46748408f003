use Rattle.std.proofs.Common.{refl}
use Rattle.batch_stack.proofs.Alone.{give_goes}
use Rattle.batch_stack.proofs.transfer.tests.begin_give.Goals as goal

pub returns-clause-goes : goal.returns-clause-goes
returns-clause-goes g c = give_goes _ _ _ _ c.requires.rests c.requires.spare (c.if-not-is_young.ensures.0 refl) c.begin_give.ensures
