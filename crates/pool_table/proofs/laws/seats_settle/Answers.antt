use Rattle.pool_table.proofs.Settled.{settles}
use Rattle.pool_table.proofs.laws.seats_settle.Goals as goal

pub returns : goal.returns
returns c = settles
