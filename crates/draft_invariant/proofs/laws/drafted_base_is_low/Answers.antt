use Rattle.draft_invariant.proofs.Gives.{drafted_base_is_low}
use Rattle.draft_invariant.proofs.laws.drafted_base_is_low.Goals as goal

pub returns : goal.returns
returns c = drafted_base_is_low
