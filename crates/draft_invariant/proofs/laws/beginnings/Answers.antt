use Rattle.draft_invariant.proofs.Keeps.{beginnings_keep}
use Rattle.draft_invariant.proofs.laws.beginnings.Goals as goal

pub returns : goal.returns
returns c sizes words views after states i wish li drafts rest moved = beginnings_keep sizes words views after states i wish li drafts moved
