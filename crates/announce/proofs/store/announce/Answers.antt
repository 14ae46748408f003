use Rattle.std.proofs.Common.{arith}
use Rattle.announce.proofs.Announcing.{announcement_fits, announce_keeps, announce_tells}
use Rattle.announce.proofs.store.announce.Goals as goal

pub announcement-word-requires-clause-number : goal.announcement-word-requires-clause-number
announcement-word-requires-clause-number g c = (announcement_fits _ _ _ _ _ c.requires.may.can c.requires.announces).number_fits

pub announcement-word-requires-clause-wish : goal.announcement-word-requires-clause-wish
announcement-word-requires-clause-wish g c = (announcement_fits _ _ _ _ _ c.requires.may.can c.requires.announces).wish_fits

pub overflow_add-process : goal.overflow_add-process
overflow_add-process g c = let few = (announcement_fits _ _ _ _ _ c.requires.may.can c.requires.announces).few in omega arith

pub store_with-requires-clause-place : goal.store_with-requires-clause-place
store_with-requires-clause-place g c =
    rw c.requires.may.whole (announcement_fits _ _ _ _ _ c.requires.may.can c.requires.announces).within

pub store_with-requires-clause-rule : goal.store_with-requires-clause-rule
store_with-requires-clause-rule g c = announce_keeps _ _ _ _ _ _ _ c.requires.may.can c.requires.announces c.announcement-word.ensures

pub returns-clause-announced : goal.returns-clause-announced
returns-clause-announced g c =
    announce_tells _ _ _ _ _ _ _ _ _ c.requires.may.can c.requires.announces c.announcement-word.ensures c.store_with.ensures.step.1
