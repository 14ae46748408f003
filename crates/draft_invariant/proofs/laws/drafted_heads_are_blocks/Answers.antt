use Rattle.draft_invariant.proofs.Gives.{drafted_heads_are_blocks}
use Rattle.draft_invariant.proofs.laws.drafted_heads_are_blocks.Goals as goal

pub returns : goal.returns
returns c = drafted_heads_are_blocks
