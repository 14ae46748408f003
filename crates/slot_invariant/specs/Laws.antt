-- the opening meets the part on slots, and steps keep it
use Rattle.std.specs.Prelude.{◌≡◌, ℕ, ◌+◌, ◌-◌, ◌<◌, ◌≤◌, Bool}
use Rattle.word_layout.specs.Sizes.{Sizes, IsShape}
use Rattle.transfer_machine.specs.Loads.{loaded_tag, loaded_base, overlay_length}
use Rattle.transfer_machine.specs.Machine.{action_of, met_of}
use Rattle.transfer_machine.specs.Words.{name_of}
use Rattle.transfer_machine.specs.declared.transfer.TransferView.{TransferView}
use Rattle.transfer_machine.specs.declared.stage.NextStep.TheVariants.{Try}
use Rattle.transfer_machine.specs.declared.stage.TryStep.TheVariants.{LoadCoveredSlot, ExchangeSlot, LoadPoppedSlot, ExchangeState}
use Rattle.transfer_invariant.specs.Memory.{Words, Views, States, Acted, Moved, state_tag, slot_value}
use Rattle.transfer_invariant.specs.PartLaws.{OpeningMeets, BeginningsKeep}
use Rattle.transfer_invariant.specs.Installing.{states_after}
use Rattle.transfer_invariant.specs.Invariant.{Invariant}
use Rattle.transfer_invariant.specs.Laws.{WritesFit}
use Rattle.slot_invariant.specs.Slots.{SlotsInvariant}

-- the words and views of the opening meet the part on slots, with the state of the opening
abbrev pub OpeningMeetsSlots : Type 0
OpeningMeetsSlots = OpeningMeets SlotsInvariant

-- a draft that is to be installed lies on the loaded content
abbrev pub DraftBelow : TransferView → Type 0
DraftBelow v = (second : Bool) → v.next ≡ Try second ExchangeState → v.draft.base ≤ loaded_base v.loaded + overlay_length v.loaded

-- the step of a process from words and views that meet the invariant and the part on slots leads to such words and views
abbrev pub StepsKeepSlots : Type 0
StepsKeepSlots = (sizes : Sizes) (words new : Words) (views after : Views) (states : States) (i : ℕ) → IsShape sizes → i < sizes.processes
    → Invariant sizes words views states
    → SlotsInvariant sizes words views states
    → WritesFit sizes words (views i)
    → DraftBelow (views i)
    → Acted sizes (action_of sizes (views i)) words new
    → Moved i (met_of sizes (views i) (words (name_of (action_of sizes (views i))))) views after
    → SlotsInvariant sizes new after (states_after words (views i) states)

-- a process at rest that begins a transfer keeps it
abbrev pub BeginningsKeepSlots : Type 0
BeginningsKeepSlots = BeginningsKeep SlotsInvariant

-- while the loaded state is the present one, the slot below the working base holds its content, where it lies below the loaded base
abbrev pub PoppedSlotsHoldContent : Type 0
PoppedSlotsHoldContent =
    (sizes : Sizes) (words : Words) (views : Views) (states : States) (i process : ℕ) (second : Bool) → i < sizes.processes
    → Invariant sizes words views states
    → SlotsInvariant sizes words views states
    → (views i).next ≡ Try second (LoadPoppedSlot process)
    → loaded_tag (views i).loaded ≡ state_tag words
    → 1 ≤ (views i).draft.base → (views i).draft.base - 1 < loaded_base (views i).loaded
    → slot_value words ((views i).draft.base - 1) ≡ (states (state_tag words)).content ((views i).draft.base - 1)

-- a view loads and exchanges only slots that the loaded overlay covers
abbrev pub CoveredSlotsAreFew : Type 0
CoveredSlotsAreFew = (sizes : Sizes) (words : Words) (views : Views) (states : States) (i offset : ℕ) (second : Bool) → i < sizes.processes
    → SlotsInvariant sizes words views states
    → ((views i).next ≡ Try second (LoadCoveredSlot offset) → offset < overlay_length (views i).loaded)
    × ((views i).next ≡ Try second (ExchangeSlot offset) → offset < overlay_length (views i).loaded)
