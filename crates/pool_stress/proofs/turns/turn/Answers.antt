use Rattle.std.proofs.Common.{refl}
use Rattle.pool_stress.proofs.Slots.{slot_freed, slot_got}
use Rattle.pool_stress.proofs.turns.turn.Goals as goal

pub returns-in-Some-clause-slots : goal.returns-in-Some-clause-slots
returns-in-Some-clause-slots g c =
    slot_freed _ c.args.pass.now c.free.new.pass c.args.slots.now c.args.place c.in-Some.block _ _ _ c.requires.place c.take.ensures.value
    c.in-Some.is c.take.ensures.after c.requires.slots c.free.ensures.entry

pub returns-in-Got-clause-slots : goal.returns-in-Got-clause-slots
returns-in-Got-clause-slots g c =
    slot_got _ c.args.pass.now c.get.new.pass c.args.slots.now c.args.place c.in-Got.block _ c.requires.place c.take.ensures.after
    c.requires.slots (c.in-Got.ensures.free _ refl).not_own c.in-Got.ensures.entry
