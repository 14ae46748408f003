-- which place the next step of a view names
use Rattle.std.specs.Prelude.{◌<◌}
use Rattle.word_layout.specs.Sizes.{Sizes}
use Rattle.word_layout.specs.Names.{record_words}
use Rattle.transfer_machine.specs.Loads.{overlay_length}
use Rattle.transfer_machine.specs.Stages.{in_try_else}
use Rattle.transfer_machine.specs.declared.loaded.Loaded.{Loaded}
use Rattle.transfer_machine.specs.declared.transfer.TransferView.{TransferView}
use Rattle.transfer_machine.specs.declared.stage.NextStep.{NextStep}
use Rattle.transfer_machine.specs.declared.stage.TryStep.{TryStep}
use Rattle.transfer_machine.specs.declared.stage.TryStep.TheVariants.{LoadState, LoadRecordWord, LoadCoveredSlot, ExchangeSlot}
use Rattle.transfer_machine.specs.declared.stage.TryStep.TheVariants.{LoadAnnouncement, LoadPoppedSlot, StoreRecordWord, ExchangeState}

-- the record word, the covered slot or the process that a step of a try names is one of them
abbrev pub IndexFitsInTry : Sizes → Loaded → TryStep → Type 0
IndexFitsInTry sizes loaded LoadState = Unit {0}
IndexFitsInTry sizes loaded (LoadRecordWord index) = index < record_words sizes
IndexFitsInTry sizes loaded (LoadCoveredSlot offset) = offset < overlay_length loaded
IndexFitsInTry sizes loaded (ExchangeSlot offset) = offset < overlay_length loaded
IndexFitsInTry sizes loaded (LoadAnnouncement process) = process < sizes.processes
IndexFitsInTry sizes loaded (LoadPoppedSlot process) = process < sizes.processes
IndexFitsInTry sizes loaded (StoreRecordWord index) = index < record_words sizes
IndexFitsInTry sizes loaded ExchangeState = Unit {0}

-- and so is the one that any step names
abbrev pub IndexFitsAt : Sizes → Loaded → NextStep → Type 0
IndexFitsAt sizes loaded next = in_try_else (IndexFitsInTry sizes loaded) (Unit {0}) next

-- the same of the next step
abbrev pub IndexFits : Sizes → TransferView → Type 0
IndexFits sizes v = IndexFitsAt sizes v.loaded v.next
