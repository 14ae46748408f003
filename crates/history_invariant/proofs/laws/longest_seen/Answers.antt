use Rattle.history_invariant.proofs.Seeing.{longest_is_history}
use Rattle.history_invariant.proofs.laws.longest_seen.Goals as goal

pub returns : goal.returns
returns c = longest_is_history
