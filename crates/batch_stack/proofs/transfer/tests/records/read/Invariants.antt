use Rattle.std.specs.Prelude.{◌≡◌}
use Rattle.word_table.specs.Seats.{SameSeat}
use Rattle.batch_stack.specs.Alone.{ReadsAlone}
use Rattle.batch_stack.proofs.transfer.tests.records.read.Given as goal

abbrev pub invariant-loop : goal.invariant-loop
invariant-loop l = SameSeat l.initial.seat l.seat × (l.reader.sizes ≡ l.initial.reader.sizes) × ReadsAlone l.seat.view l.reader
