-- the store of a record word
use Rattle.std.specs.Prelude.{◌≡◌, ℕ, ◌+◌, ◌==◌, Bool, true, if◌then◌else◌}
use Rattle.word_layout.specs.Sizes.{Sizes}
use Rattle.word_layout.specs.Names.{record_words}
use Rattle.transfer_machine.specs.Loads.{loaded_tag}
use Rattle.transfer_machine.specs.Tries.{drafted_value}
use Rattle.transfer_machine.specs.declared.stage.NextStep.TheVariants.{Try}
use Rattle.transfer_machine.specs.declared.stage.TryStep.TheVariants.{StoreRecordWord}
use Rattle.transfer_machine.specs.declared.transfer.TransferView.{TransferView}
use Rattle.interleaving_core.specs.TransferLaws.{moves_transfer}
use Rattle.pool_table.specs.declared.about.About.{About}
use Rattle.pool_table.specs.Turns.{turning}
use Rattle.pool_table.specs.Views.{SeatView}
use Rattle.pool_table.specs.Transfers.{transfer_about}
use Rattle.versioned_records.specs.declared.writer.WriteStep.{WriteStep}
use Rattle.versioned_records.specs.declared.writer.WriteStep.TheVariants.{Going, Written}

-- how far the writing of a record is once that word was stored
abbrev pub write_step : Sizes → ℕ → WriteStep
write_step sizes index = if index + 1 == record_words sizes then Written else Going

-- a transfer is to store this value in this word of this record, its next one, with this tag: one above that of the state that it loaded
pub record IsToStore (sizes : Sizes) (t : TransferView) (tag row index value : ℕ) : Type 0 where
  pub second : Bool
  pub next : t.next ≡ Try second (StoreRecordWord index)
  pub same_tag : loaded_tag t.loaded + 1 ≡ tag
  pub same_row : t.next_record ≡ row
  pub same_value : drafted_value sizes.processes t.draft index ≡ value

-- so is that of a seat's process, and it is what the process does next
pub record StoresWord (sizes : Sizes) (about : About) (v : SeatView) (tag row index value : ℕ) : Type 0 where
  pub moves : moves_transfer (turning about v.mind.view) ≡ true
  pub stores : IsToStore sizes (transfer_about about v) tag row index value
