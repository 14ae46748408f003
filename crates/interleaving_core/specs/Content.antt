-- how the words of a table say the content of the shared stack
use Rattle.std.specs.Prelude.{◌≡◌, ℕ, ◌<◌, ◌≤◌, List, length}
use Rattle.word_layout.specs.Sizes.{Sizes}
use Rattle.word_layout.specs.Names.{records, table_words, word_at}
use Rattle.word_layout.specs.Packing.{value_of}
use Rattle.word_layout.specs.declared.name.WordName.TheVariants.{RecordWord}
use Rattle.transfer_machine.specs.Words.{current_record, stack_height}

-- the words say a content: the current record is one of the records, its overlay has at most a head a process, and all places are slots
pub record SaysContent (sizes : Sizes) (words : List ℕ) : Type 0 where
  pub whole : length words ≡ table_words sizes
  pub row : current_record sizes words < records sizes
  pub overlay : value_of (word_at sizes words (RecordWord (current_record sizes words) 1)) ≤ sizes.processes
  pub height : stack_height sizes words ≤ sizes.batches
