use Rattle.std.proofs.Common.{refl, sym}
use Rattle.batch_stack.proofs.Alone.{gave_rests}
use Rattle.batch_stack.proofs.transfer.tests.making.give.Goals as goal

pub returns-clause-rests : goal.returns-clause-rests
returns-clause-rests g c =
    (gave_rests _ _ _ _ _ _ _ (c.if-not-has_given.ensures.0 refl) (sym c.finish-progress.ensures.moved.1) c.finish-progress.ensures.played
    c.begin_give.ensures.spares).0

pub returns-clause-spares : goal.returns-clause-spares
returns-clause-spares g c =
    (gave_rests _ _ _ _ _ _ _ (c.if-not-has_given.ensures.0 refl) (sym c.finish-progress.ensures.moved.1) c.finish-progress.ensures.played
    c.begin_give.ensures.spares).1
