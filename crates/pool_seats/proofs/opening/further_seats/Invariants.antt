use Rattle.pool_seats.proofs.Made.{AreMade}
use Rattle.pool_seats.proofs.opening.further_seats.Given as goal

abbrev pub invariant-loop-made : goal.invariant-loop-made
invariant-loop-made l = AreMade l.shape l.table l._made l.steps l.first l.seats.items
