use Rattle.transfer_machine.specs.Filling.{Fills, opening_record_below}
use Rattle.transfer_machine.proofs.opening.open_record.Given as goal

abbrev pub invariant-loop-index : goal.invariant-loop-index
invariant-loop-index l = Fills l.shape (opening_record_below l.shape l.index) l.initial.words l.words
