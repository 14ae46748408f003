-- the opening meets the part draft of a try, steps keep it, and what it gives
use Rattle.std.specs.Prelude.{◌≡◌, ℕ, ◌+◌, ◌*◌, ◌<◌, ◌≤◌, Bool, slice_index}
use Rattle.word_layout.specs.Sizes.{Sizes, IsShape, blocks}
use Rattle.word_layout.specs.Names.{InRange}
use Rattle.word_layout.specs.Packing.{tag_limit, value_limit}
use Rattle.word_layout.specs.declared.name.WordName.{WordName}
use Rattle.word_layout.specs.declared.name.WordName.TheVariants.{State}
use Rattle.transfer_machine.specs.Loads.{loaded_base, overlay_length}
use Rattle.transfer_machine.specs.Machine.{action_of, met_of, CanAct, CanMeet}
use Rattle.transfer_machine.specs.Opening.{opening_word, opening_transfer}
use Rattle.transfer_machine.specs.States.{next_of}
use Rattle.transfer_machine.specs.Tries.{drafted_value}
use Rattle.transfer_machine.specs.Words.{name_of}
use Rattle.transfer_machine.specs.declared.transfer.TransferView.{TransferView}
use Rattle.transfer_machine.specs.declared.stage.NextStep.TheVariants.{Try}
use Rattle.transfer_machine.specs.declared.stage.TryStep.TheVariants.{LoadCoveredSlot, ExchangeSlot, StoreRecordWord, ExchangeState}
use Rattle.transfer_invariant.specs.Memory.{Words, Views, States, Acted, Moved, state_tag}
use Rattle.transfer_invariant.specs.PartLaws.{BeginningsKeep}
use Rattle.transfer_invariant.specs.Installing.{drafted_state, states_after}
use Rattle.transfer_invariant.specs.Invariant.{Invariant}
use Rattle.transfer_invariant.specs.Laws.{WritesFit}
use Rattle.draft_invariant.specs.Holding.{DraftsHold, DraftPremises}
use Rattle.draft_invariant.specs.NextState.{SameState}

-- the words and views of the opening meet the part, with whatever states
abbrev pub OpeningMeetsDrafts : Type 0
OpeningMeetsDrafts = (sizes : Sizes) (words : Words) (views : Views) (states : States) → IsShape sizes
    → ((name : WordName) → InRange sizes name → words name ≡ opening_word sizes name)
    → ((i : ℕ) → i < sizes.processes → views i ≡ opening_transfer i)
    → DraftsHold sizes words views states

-- the step of a process from words and views that meet the invariant and the part leads to such ones
abbrev pub StepsKeepDrafts : Type 0
StepsKeepDrafts = (sizes : Sizes) (words new : Words) (views after : Views) (states : States) (i : ℕ) → IsShape sizes → i < sizes.processes
    → Invariant sizes words views states
    → DraftsHold sizes words views states
    → DraftPremises sizes words states (views i)
    → Acted sizes (action_of sizes (views i)) words new
    → Moved i (met_of sizes (views i) (words (name_of (action_of sizes (views i))))) views after
    → DraftsHold sizes new after (states_after words (views i) states)

-- a process at rest that begins a transfer keeps the part
abbrev pub BeginningsKeepDrafts : Type 0
BeginningsKeepDrafts = BeginningsKeep DraftsHold

-- the covered slot that the next step is about lies in the loaded overlay
pub record CoversWithin (v : TransferView) : Type 0 where
  pub load : (second : Bool) (offset : ℕ) → v.next ≡ Try second (LoadCoveredSlot offset) → offset < overlay_length v.loaded
  pub exchange : (second : Bool) (offset : ℕ) → v.next ≡ Try second (ExchangeSlot offset) → offset < overlay_length v.loaded

-- every view can make its next step, whose numbers are then all in range
abbrev pub StepsCanBeMade : Type 0
StepsCanBeMade = (sizes : Sizes) (words : Words) (views : Views) (states : States) (i : ℕ) → IsShape sizes → i < sizes.processes
    → Invariant sizes words views states
    → DraftsHold sizes words views states
    → DraftPremises sizes words states (views i)
    → CoversWithin (views i)
    → state_tag words + 1 < tag_limit
    → CanAct sizes (views i) × CanMeet sizes (views i) (words (name_of (action_of sizes (views i))))

-- what a view stores in its next record fits a value
abbrev pub StoredWordsFit : Type 0
StoredWordsFit =
    (sizes : Sizes) (words : Words) (views : Views) (states : States) (i : ℕ) (second : Bool) (index : ℕ) → IsShape sizes
    → i < sizes.processes
    → Invariant sizes words views states
    → DraftsHold sizes words views states
    → (views i).next ≡ Try second (StoreRecordWord index)
    → drafted_value sizes.processes (views i).draft index < value_limit

-- the state that a view drafts is, where its exchange installs it, what the loaded announcements make of the present one
abbrev pub DraftedIsNext : Type 0
DraftedIsNext =
    (sizes : Sizes) (words : Words) (views : Views) (states : States) (i : ℕ) (second : Bool) → IsShape sizes → i < sizes.processes
    → Invariant sizes words views states
    → DraftsHold sizes words views states
    → (views i).next ≡ Try second ExchangeState
    → words State ≡ (views i).loaded.state
    → SameState sizes.processes (drafted_state (states (state_tag words)) (views i))
    (next_of sizes.processes (λ o. slice_index (views i).loaded.announcements o) (states (state_tag words)))

-- the heads that a view drafts are blocks
abbrev pub DraftedHeadsAreBlocks : Type 0
DraftedHeadsAreBlocks = (sizes : Sizes) (words : Words) (views : Views) (states : States) (i k : ℕ) → i < sizes.processes
    → DraftsHold sizes words views states
    → slice_index (views i).draft.heads k < blocks sizes

-- the base that a view drafts is at most the height of the state that it loaded, when it is about to install the draft
abbrev pub DraftedBaseIsLow : Type 0
DraftedBaseIsLow = (sizes : Sizes) (words : Words) (views : Views) (states : States) (i : ℕ) (second : Bool) → i < sizes.processes
    → DraftsHold sizes words views states
    → (views i).next ≡ Try second ExchangeState
    → (views i).draft.base ≤ loaded_base (views i).loaded + overlay_length (views i).loaded

-- what a view writes fits, where all places of a draft that it installs are slots
abbrev pub DraftsGiveWrites : Type 0
DraftsGiveWrites = (sizes : Sizes) (words : Words) (views : Views) (states : States) (i : ℕ) → IsShape sizes → i < sizes.processes
    → Invariant sizes words views states
    → DraftsHold sizes words views states
    → ((second : Bool) → (views i).next ≡ Try second ExchangeState → words State ≡ (views i).loaded.state
    → (views i).draft.base + (views i).draft.overlay ≤ sizes.batches)
    → WritesFit sizes words (views i)
