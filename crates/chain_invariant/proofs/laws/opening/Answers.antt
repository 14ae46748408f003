use Rattle.chain_invariant.proofs.Opened.{opening_chains}
use Rattle.chain_invariant.proofs.laws.opening.Goals as goal

pub returns : goal.returns
returns c sizes words s views held shape next height content seats none =
    opening_chains sizes words s views held shape next height content seats none
