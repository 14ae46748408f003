use Rattle.chain_invariant.proofs.Gives.{current_lists_are_free, spares_are_free, held_are_apart}
use Rattle.chain_invariant.proofs.laws.free.Goals as goal

pub returns-clause-current : goal.returns-clause-current
returns-clause-current c sizes words s views held i li chains = current_lists_are_free sizes words s views held i li chains

pub returns-clause-spares : goal.returns-clause-spares
returns-clause-spares c sizes words s views held i place shape li chains lt =
    spares_are_free sizes words s views held i place shape li chains lt

pub returns-clause-held : goal.returns-clause-held
returns-clause-held c sizes words s views held i block li chains has = held_are_apart sizes words s views held i block li chains has
