use Rattle.std.specs.Prelude.{ℕ, ◌+◌, ◌*◌, ◌<◌, List, slice_index, slice_set}
use Rattle.word_layout.specs.Sizes.{Sizes, blocks}
use Rattle.word_layout.specs.declared.name.WordName.{WordName}
use Rattle.word_layout.specs.declared.name.WordName.TheVariants.{State, Announcement, RecordWord, Slot, Next, Data}

-- two records a process, and the opening one
abbrev pub records : Sizes → ℕ
records sizes = 2 * sizes.processes + 1

-- a record has the base, the overlay's length, the overlay, and a reply a process
abbrev pub record_words : Sizes → ℕ
record_words sizes = 2 * sizes.processes + 2

-- the numbers of a name are within the sizes
abbrev pub InRange : Sizes → WordName → Type 0
InRange sizes State = Unit {0}
InRange sizes (Announcement process) = process < sizes.processes
InRange sizes (RecordWord row index) = (row < records sizes) × (index < record_words sizes)
InRange sizes (Slot slot) = slot < sizes.batches
InRange sizes (Next block) = block < blocks sizes
InRange sizes (Data block index) = (block < blocks sizes) × (index < sizes.words)

-- where the slots begin: after the state, the announcements and the records
unfoldable pub slots_start : Sizes → ℕ
slots_start sizes = 1 + sizes.processes + records sizes * record_words sizes

-- where the next words begin
unfoldable pub nexts_start : Sizes → ℕ
nexts_start sizes = slots_start sizes + sizes.batches

-- where the data words begin
unfoldable pub data_start : Sizes → ℕ
data_start sizes = nexts_start sizes + blocks sizes

-- how many words the table has
unfoldable pub table_words : Sizes → ℕ
table_words sizes = data_start sizes + blocks sizes * sizes.words

-- the place of a name
unfoldable pub place : Sizes → WordName → ℕ
place sizes State = 0
place sizes (Announcement process) = 1 + process
place sizes (RecordWord row index) = 1 + sizes.processes + (row * record_words sizes + index)
place sizes (Slot slot) = slots_start sizes + slot
place sizes (Next block) = nexts_start sizes + block
place sizes (Data block index) = data_start sizes + (block * sizes.words + index)

-- the word of that name
unfoldable pub word_at : Sizes → List ℕ → WordName → ℕ
word_at sizes words name = slice_index words (place sizes name)

-- the words with another one at that name
unfoldable pub set_word : Sizes → List ℕ → WordName → ℕ → List ℕ
set_word sizes words name word = slice_set words (place sizes name) word
