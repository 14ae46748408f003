-- the part of the invariant that speaks of the slots
use Rattle.std.specs.Prelude.{◌≡◌, ◌≢◌, ℕ, ◌+◌, ◌<◌, ◌≤◌, true, slice_index, length}
use Rattle.word_layout.specs.Sizes.{Sizes, blocks}
use Rattle.word_layout.specs.Packing.{tag_of, value_of}
use Rattle.transfer_machine.specs.Loads.{loaded_tag, loaded_base, overlay_length}
use Rattle.transfer_machine.specs.declared.transfer.TransferView.{TransferView}
use Rattle.transfer_invariant.specs.Memory.{Words, Views, States, state_tag, slot_tag, slot_value}
use Rattle.transfer_invariant.specs.Progress.{has_record, at_covered_slot, at_slot_exchange, passed_before}

-- how many covered slots a view's try is done with
abbrev pub passed_slots : TransferView → ℕ
passed_slots v = passed_before (overlay_length v.loaded) v.next

-- the slot after these: at a covered slot that one
abbrev pub slot_to_pass : TransferView → ℕ
slot_to_pass v = loaded_base v.loaded + passed_slots v

-- the word that was loaded from it last
abbrev pub word_to_pass : TransferView → ℕ
word_to_pass v = slice_index v.loaded.slots (passed_slots v)

-- Slots: below the base they hold the content; a slot with the state's tag, the highest one, is covered and holds the content;
-- a slot that an earlier state covered has at least that one's tag
pub record SlotsHold (sizes : Sizes) (words : Words) (states : States) : Type 0 where
  pub below : (s : ℕ) → s < (states (state_tag words)).base → slot_value words s ≡ (states (state_tag words)).content s
  pub tags : (s : ℕ) → s < sizes.batches → slot_tag words s ≤ state_tag words
  pub now_low : (s : ℕ) → s < sizes.batches → slot_tag words s ≡ state_tag words → (states (state_tag words)).base ≤ s
  pub now_high : (s : ℕ) → s < sizes.batches → slot_tag words s ≡ state_tag words → s < (states (state_tag words)).height
  pub now_value : (s : ℕ) → s < sizes.batches → slot_tag words s ≡ state_tag words
      → slot_value words s ≡ (states (state_tag words)).content s
  pub before : (m s : ℕ) → m < state_tag words → (states m).base ≤ s → s < (states m).height → m ≤ slot_tag words s
  pub values : (s : ℕ) → s < sizes.batches → slot_value words s < blocks sizes

-- Slots, of one view: while the loaded state is the present one, the covered slots that it passed have that state's tag, and the
-- slot that it is to exchange has it too or is still the word that was loaded
pub record SlotsKnown (words : Words) (v : TransferView) : Type 0 where
  pub room : length v.loaded.slots ≡ 32
  pub within : at_covered_slot v.next ≡ true → passed_slots v < overlay_length v.loaded
  pub passed : has_record v.next ≡ true → loaded_tag v.loaded ≡ state_tag words → (s : ℕ)
      → loaded_base v.loaded ≤ s → s < slot_to_pass v → slot_tag words s ≡ state_tag words
  pub low : at_slot_exchange v.next ≡ true → tag_of (word_to_pass v) < loaded_tag v.loaded
  pub stays_tag : at_slot_exchange v.next ≡ true → loaded_tag v.loaded ≡ state_tag words → slot_tag words (slot_to_pass v) ≢ state_tag words
      → slot_tag words (slot_to_pass v) ≡ tag_of (word_to_pass v)
  pub stays_value : at_slot_exchange v.next ≡ true → loaded_tag v.loaded ≡ state_tag words
      → slot_tag words (slot_to_pass v) ≢ state_tag words
      → slot_value words (slot_to_pass v) ≡ value_of (word_to_pass v)

-- the part slots of the words and of all views, with these states
pub record SlotsInvariant (sizes : Sizes) (words : Words) (views : Views) (states : States) : Type 0 where
  pub hold : SlotsHold sizes words states
  pub known : (i : ℕ) → i < sizes.processes → SlotsKnown words (views i)
