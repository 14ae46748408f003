use Rattle.std.specs.Prelude.{◌≡◌}
use Rattle.word_table.specs.Seats.{SameSeat}
use Rattle.batch_stack.specs.Alone.{WritesAlone}
use Rattle.batch_stack.proofs.transfer.tests.writing.write.Given as goal

abbrev pub invariant-loop-index : goal.invariant-loop-index
invariant-loop-index g l = SameSeat l.initial.seat l.seat × (l.writer.sizes ≡ l.initial.writer.sizes) × WritesAlone l.seat.view l.writer
