use Rattle.chain_invariant.proofs.Gives.{drafts_have_room}
use Rattle.chain_invariant.proofs.laws.plans.Goals as goal

pub returns : goal.returns
returns c sizes words s views held v shape chains installs = drafts_have_room sizes words s views held v shape chains installs
