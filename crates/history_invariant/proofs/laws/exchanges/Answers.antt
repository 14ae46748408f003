use Rattle.history_invariant.proofs.Holding.{exchange_holds}
use Rattle.history_invariant.proofs.laws.exchanges.Goals as goal

pub returns : goal.returns
returns c = exchange_holds
