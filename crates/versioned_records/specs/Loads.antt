-- the load of a record word
use Rattle.std.specs.Prelude.{◌≡◌, ℕ, ◌+◌, ◌<◌, ◌==◌, nat_lt, Bool, true, if◌then◌else◌, List}
use mathlib.Core.Option.{some}
use lib.ListN.{get_elem?}
use Rattle.word_layout.specs.Sizes.{Sizes}
use Rattle.word_layout.specs.Names.{record_words, word_at}
use Rattle.word_layout.specs.Packing.{tag_of}
use Rattle.word_layout.specs.declared.name.WordName.TheVariants.{State}
use Rattle.transfer_machine.specs.Loads.{loaded_tag, loaded_record}
use Rattle.transfer_machine.specs.declared.stage.NextStep.TheVariants.{Try}
use Rattle.transfer_machine.specs.declared.stage.TryStep.TheVariants.{LoadRecordWord}
use Rattle.transfer_machine.specs.declared.transfer.TransferView.{TransferView}
use Rattle.interleaving_core.specs.TransferLaws.{moves_transfer}
use Rattle.pool_table.specs.declared.about.About.{About}
use Rattle.pool_table.specs.Rule.{Holds}
use Rattle.pool_table.specs.Turns.{turning}
use Rattle.pool_table.specs.Views.{SeatView}
use Rattle.pool_table.specs.Transfers.{transfer_about}
use Rattle.versioned_records.specs.declared.reader.ReadStep.{ReadStep}
use Rattle.versioned_records.specs.declared.reader.ReadStep.TheVariants.{Going, Whole, Moved}

-- how far the reading of a record is once this word was loaded there: one with a higher tag is of a later state
abbrev pub read_step : Sizes → ℕ → ℕ → ℕ → ReadStep
read_step sizes tag index word =
    if nat_lt tag (tag_of word) then Moved
    else (if index + 1 == record_words sizes then Whole else Going)

-- a transfer is to load this word of this record, that of the state with this tag, which it loaded in its present try
pub record IsToLoad (t : TransferView) (tag row index : ℕ) : Type 0 where
  pub second : Bool
  pub next : t.next ≡ Try second (LoadRecordWord index)
  pub same_tag : loaded_tag t.loaded ≡ tag
  pub same_row : loaded_record t.loaded ≡ row

-- so is that of a seat's process, and it is what the process does next
pub record LoadsWord (about : About) (v : SeatView) (tag row index : ℕ) : Type 0 where
  pub moves : moves_transfer (turning about v.mind.view) ≡ true
  pub loads : IsToLoad (transfer_about about v) tag row index

-- the state of these words has a higher tag
abbrev pub HasMovedOn : Sizes → List ℕ → ℕ → Type 0
HasMovedOn sizes words tag = tag < tag_of (word_at sizes words State)
