use Rattle.slot_invariant.proofs.Opened.{opened_slots}
use Rattle.slot_invariant.proofs.laws.opening.Goals as goal

pub returns : goal.returns
returns c sizes words views shape opened seats = opened_slots sizes words shape opened views seats
