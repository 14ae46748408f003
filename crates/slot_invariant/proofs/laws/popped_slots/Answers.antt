use Rattle.slot_invariant.proofs.Popped.{popped_slots}
use Rattle.slot_invariant.proofs.laws.popped_slots.Goals as goal

pub returns : goal.returns
returns c sizes words views states i process second li inv slots e now some low =
    popped_slots sizes words views states i process second li inv.records slots e now some low
