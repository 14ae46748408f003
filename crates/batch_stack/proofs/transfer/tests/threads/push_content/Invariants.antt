use Rattle.word_table.specs.Seats.{SameSeat}
use Rattle.batch_stack.proofs.transfer.tests.threads.push_content.Given as goal

abbrev pub invariant-loop-slot : goal.invariant-loop-slot
invariant-loop-slot l = SameSeat l.initial.seat l.seat

abbrev pub invariant-loop-above : goal.invariant-loop-above
invariant-loop-above l = SameSeat l.initial.seat l.seat
