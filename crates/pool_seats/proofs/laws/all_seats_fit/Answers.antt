use Rattle.pool_seats.proofs.Settling.{all_seats_fit}
use Rattle.pool_seats.proofs.laws.all_seats_fit.Goals as goal

pub returns : goal.returns
returns c = all_seats_fit
