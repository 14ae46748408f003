-- the parts of the invariant that speak of the state and of the records
use Rattle.std.specs.Prelude.{◌≡◌, ◌≢◌, ℕ, ◌+◌, ◌/◌, ◌<◌, ◌≤◌, true, length}
use Rattle.word_layout.specs.Sizes.{Sizes, blocks}
use Rattle.word_layout.specs.Names.{records, record_words}
use Rattle.transfer_machine.specs.Loads.{loaded_tag, loaded_record, record_value}
use Rattle.transfer_machine.specs.Tries.{drafted_value}
use Rattle.transfer_machine.specs.States.{StackState}
use Rattle.transfer_machine.specs.declared.transfer.TransferView.{TransferView}
use Rattle.transfer_invariant.specs.Memory.{Words, States, state_tag, current_record, word_tag, word_value, state_value}
use Rattle.transfer_invariant.specs.Progress.{in_try, has_loaded, record_index, loaded_words, stored_words}

-- Current record: its words have the state's number and the state's values
pub record CurrentRecord (sizes : Sizes) (words : Words) (states : States) : Type 0 where
  pub row : current_record words < records sizes
  pub tags : (index : ℕ) → index < record_words sizes → word_tag words (current_record words) index ≡ state_tag words
  pub values : (index : ℕ) → index < record_words sizes
      → word_value words (current_record words) index ≡ state_value sizes.processes (states (state_tag words)) index

-- of it, one state: the overlay ends the content and has at most a head a process, all places are slots, the overlay's heads are blocks
pub record StateFits (sizes : Sizes) (s : StackState) : Type 0 where
  pub base : s.base ≤ s.height
  pub overlay : s.height ≤ s.base + sizes.processes
  pub within : s.height ≤ sizes.batches
  pub heads : (place : ℕ) → s.base ≤ place → place < s.height → s.content place < blocks sizes

-- and every state so far
abbrev pub StatesFit : Sizes → Words → States → Type 0
StatesFit sizes words states = (m : ℕ) → m ≤ state_tag words → StateFits sizes (states m)

-- Own record: no record word has a tag above that of the state to come
abbrev pub TagsBelow : Sizes → Words → Type 0
TagsBelow sizes words =
    (row index : ℕ) → row < records sizes → index < record_words sizes → word_tag words row index ≤ state_tag words + 1

-- Own record, of one process: its next record is one of its two and isn't current; what it stored there is what its try drafted
pub record OwnRecord (sizes : Sizes) (words : Words) (process : ℕ) (v : TransferView) : Type 0 where
  -- the record word that its next step is about
  pub index : record_index v.next < record_words sizes
  -- the owner of its next record
  pub next : v.next_record / 2 ≡ process
  pub apart : current_record words ≢ v.next_record
  -- its last installed state is at most the present one, and the one that its try loaded
  pub installed : v.installed ≤ state_tag words
  pub tried : in_try v.next ≡ true → v.installed ≤ loaded_tag v.loaded
  -- what it stored in the try has the next tag and the drafted values
  pub stored_tags : (index : ℕ) → index < stored_words (record_words sizes) v.next
      → word_tag words v.next_record index ≡ loaded_tag v.loaded + 1
  pub stored_values : (index : ℕ) → index < stored_words (record_words sizes) v.next
      → word_value words v.next_record index ≡ drafted_value sizes.processes v.draft index

-- Loaded state: it is at most the present one, and a word of its record has its number and its values, or a higher number
pub record LoadedState (sizes : Sizes) (words : Words) (states : States) (v : TransferView) : Type 0 where
  pub room : length v.loaded.record_words ≡ 66
  pub past : has_loaded v.next ≡ true → loaded_tag v.loaded ≤ state_tag words
  pub row : has_loaded v.next ≡ true → loaded_record v.loaded < records sizes
  -- where it is the present state its record is the current one
  pub same : has_loaded v.next ≡ true → loaded_tag v.loaded ≡ state_tag words → loaded_record v.loaded ≡ current_record words
  pub tags : has_loaded v.next ≡ true → (index : ℕ) → index < record_words sizes
      → loaded_tag v.loaded ≤ word_tag words (loaded_record v.loaded) index
  pub values : has_loaded v.next ≡ true → (index : ℕ) → index < record_words sizes
      → word_tag words (loaded_record v.loaded) index ≡ loaded_tag v.loaded
      → word_value words (loaded_record v.loaded) index ≡ state_value sizes.processes (states (loaded_tag v.loaded)) index
  -- the words that were loaded have its values
  pub loaded : (index : ℕ) → index < loaded_words (record_words sizes) v.next
      → record_value v.loaded index ≡ state_value sizes.processes (states (loaded_tag v.loaded)) index

-- Loaded state, of two views: where the one loaded the record that is the other's next one, the other installed a later state
abbrev pub OwnerWentOn : TransferView → TransferView → Type 0
OwnerWentOn v owner = has_loaded v.next ≡ true → owner.next_record ≡ loaded_record v.loaded → loaded_tag v.loaded < owner.installed
