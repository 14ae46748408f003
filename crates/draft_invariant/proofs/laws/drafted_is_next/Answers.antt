use Rattle.draft_invariant.proofs.Gives.{drafted_is_next}
use Rattle.draft_invariant.proofs.laws.drafted_is_next.Goals as goal

pub returns : goal.returns
returns c = drafted_is_next
