use Rattle.pool_seats.proofs.Settling.{each_holds_few}
use Rattle.pool_seats.proofs.laws.each_holds_few.Goals as goal

pub returns : goal.returns
returns c = each_holds_few
