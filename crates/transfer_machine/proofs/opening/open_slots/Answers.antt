use Rattle.std.proofs.Common.{arith}
use Rattle.transfer_machine.proofs.Filled.{slots_begun, slots_filled}
use Rattle.transfer_machine.proofs.opening.open_slots.Goals as goal

pub loop-slot-init : goal.loop-slot-init
loop-slot-init c = slots_begun c.args.shape.now c.args.words.now

pub loop-slot-preserved : goal.loop-slot-preserved
loop-slot-preserved c =
    slots_filled c.args.shape.now c.loop-slot.words c.args.words.now c.set.new.words c.loop-slot.slot c.requires
    (omega (arith, c.loop-slot-test.true, c.batches-slot-end.ensures.value)) c.loop-slot.invariant c.set.ensures
