use Rattle.transfer_machine.specs.Filling.{Fills, slot_below}
use Rattle.transfer_machine.proofs.opening.open_slots.Given as goal

abbrev pub invariant-loop-slot : goal.invariant-loop-slot
invariant-loop-slot l = Fills l.shape (slot_below l.slot) l.initial.words l.words
