-- the slots that takes get their batches from
use Rattle.std.proofs.Common.{◌≡◌, ℕ, ◌-◌, ◌<◌, ◌≤◌, Bool, true, refl}
use Rattle.word_layout.specs.Sizes.{Sizes}
use Rattle.transfer_machine.specs.Loads.{loaded_tag, loaded_base}
use Rattle.transfer_machine.specs.declared.transfer.TransferView.{TransferView}
use Rattle.transfer_machine.specs.declared.stage.NextStep.TheVariants.{Try}
use Rattle.transfer_machine.specs.declared.stage.TryStep.TheVariants.{LoadPoppedSlot}
use Rattle.transfer_invariant.specs.Memory.{Words, Views, States, state_tag, slot_value}
use Rattle.transfer_invariant.specs.Progress.{has_record}
use Rattle.transfer_invariant.specs.Invariant.{RecordsHold}
use Rattle.slot_invariant.specs.Slots.{SlotsHold, SlotsInvariant}
use Rattle.slot_invariant.proofs.Covers.{Covers}
use Rattle.slot_invariant.proofs.Steps.{view_covers}

-- while the loaded state is the present one, a slot below the loaded base holds the content
pub holds_below_loaded_base : (sizes : Sizes) (words : Words) (states : States) (v : TransferView) (s : ℕ) → Covers sizes words states v
    → SlotsHold sizes words states → has_record v.next ≡ true → loaded_tag v.loaded ≡ state_tag words
    → s < loaded_base v.loaded
    → slot_value words s ≡ (states (state_tag words)).content s
holds_below_loaded_base sizes words states v s c h has now low = h.below s (rw (rw now at (c.base has)) low)

-- so does the slot of a taken batch
pub popped_slots : (sizes : Sizes) (words : Words) (views : Views) (states : States) (i process : ℕ) (second : Bool) → i < sizes.processes
    → RecordsHold sizes words views states → SlotsInvariant sizes words views states → (views i).next ≡ Try second (LoadPoppedSlot process)
    → loaded_tag (views i).loaded ≡ state_tag words
    → 1 ≤ (views i).draft.base → (views i).draft.base - 1 < loaded_base (views i).loaded
    → slot_value words ((views i).draft.base - 1) ≡ (states (state_tag words)).content ((views i).draft.base - 1)
popped_slots sizes words views states i process second li inv slots e now some low =
    holds_below_loaded_base sizes words states (views i) ((views i).draft.base - 1)
    (view_covers sizes words views states i inv li) slots.hold (rw e refl) now low
