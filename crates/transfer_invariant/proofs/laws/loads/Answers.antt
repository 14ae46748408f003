use Rattle.transfer_invariant.proofs.Loaded.{whole_record}
use Rattle.transfer_invariant.proofs.laws.loads.Goals as goal

pub returns : goal.returns
returns c sizes words views states i li inv whole =
    whole_record sizes words states (views i) inv.records.states_fit (inv.records.loaded i li) whole
