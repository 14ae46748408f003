use Rattle.history_invariant.proofs.Seeing.{join_holds}
use Rattle.history_invariant.proofs.laws.joins.Goals as goal

pub returns : goal.returns
returns c = join_holds
