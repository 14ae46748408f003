use Rattle.std.proofs.Common.{refl}
use Rattle.slot_invariant.proofs.Keeps.{slots_kept}
use Rattle.slot_invariant.proofs.laws.steps.Goals as goal

pub returns : goal.returns
returns c sizes words new views after states i shape li inv slots fits lies acted moved =
    slots_kept sizes words new views after states i (views i).next shape.few_processes li inv.records slots fits lies refl acted moved
