use Rattle.chain_invariant.proofs.Calls.{call_begins, own_chains_at, got_is_free, own_can_at, held_same}
use Rattle.chain_invariant.proofs.laws.calls.Goals as goal

pub returns-clause-begun : goal.returns-clause-begun
returns-clause-begun c sizes words s views after held i call x li chains can same moved =
    call_begins sizes words s views after held i x li chains can moved call same

pub returns-clause-own : goal.returns-clause-own
returns-clause-own c sizes words new s views after held held_after i x shape li chains fits acted same moved lists =
    own_chains_at sizes words new s views after held held_after i x shape li chains fits.size fits.heads same.transfer moved
    (views i).calls.call fits.within fits.names acted same.pool lists

pub returns-clause-got : goal.returns-clause-got
returns-clause-got c sizes words s views held i block shape li chains fits e =
    got_is_free sizes words s views held i shape li chains fits.heads block e

pub returns-clause-made : goal.returns-clause-made
returns-clause-made c sizes words s views held i shape li chains fits room =
    own_can_at sizes words s views held i shape li chains fits.heads (views i).calls.call fits.size fits.within fits.names (λ block e. room)

pub returns-clause-same : goal.returns-clause-same
returns-clause-same c sizes words s views held held_after chains same = held_same sizes words s views held held_after chains same
