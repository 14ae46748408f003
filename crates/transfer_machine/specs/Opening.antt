-- the opening: the words of the table and what each process knows
use Rattle.std.specs.Prelude.{◌≡◌, ℕ, ◌+◌, ◌-◌, ◌*◌, ◌%◌, ◌==◌, nat_lt, if◌then◌else◌, List, length, replicate}
use Rattle.word_layout.specs.Sizes.{Sizes}
use Rattle.word_layout.specs.Names.{InRange, table_words, word_at}
use Rattle.word_layout.specs.Packing.{tagged}
use Rattle.word_layout.specs.declared.name.WordName.{WordName}
use Rattle.word_layout.specs.declared.name.WordName.TheVariants.{State, Announcement, RecordWord, Slot, Next, Data}
use Rattle.word_layout.specs.declared.announced.Wish.TheVariants.{Take}
use Rattle.word_layout.specs.declared.reply.Reply.TheVariants.{Nothing}
use Rattle.transfer_machine.specs.declared.loaded.Loaded.{Loaded}
use Rattle.transfer_machine.specs.declared.try_draft.TryDraft.{TryDraft}
use Rattle.transfer_machine.specs.declared.transfer.TransferView.{TransferView}
use Rattle.transfer_machine.specs.declared.stage.NextStep.TheVariants.{Rest}

-- the record that is the current one at the opening; no process writes it
abbrev pub opening_record : Sizes → ℕ
opening_record sizes = 2 * sizes.processes

-- how many batches the stack has at the opening: each process has two, a current list and a spare
abbrev pub opening_base : Sizes → ℕ
opening_base sizes = sizes.batches - 2 * sizes.processes

-- the words of the opening record: the base, then an empty overlay and no replies
abbrev pub opening_record_word : Sizes → ℕ → ℕ
opening_record_word sizes index = if index == 0 then tagged 1 (opening_base sizes) else tagged 1 0

-- the head of the batch in a slot: the stack has the batches that no process has
abbrev pub opening_slot : Sizes → ℕ → ℕ
opening_slot sizes slot = if nat_lt slot (opening_base sizes) then (2 * sizes.processes + slot) * sizes.length else 0

-- the next word of a block: the following block plus 1, or 0 for the last of its batch
abbrev pub opening_next : Sizes → ℕ → ℕ
opening_next sizes block = if block % sizes.length == sizes.length - 1 then 0 else block + 2

-- the word of that name at the opening
abbrev pub opening_word : Sizes → WordName → ℕ
opening_word sizes State = tagged 1 (opening_record sizes)
opening_word sizes (Announcement process) = 0
opening_word sizes (RecordWord row index) = if row == opening_record sizes then opening_record_word sizes index else 0
opening_word sizes (Slot slot) = opening_slot sizes slot
opening_word sizes (Next block) = opening_next sizes block
opening_word sizes (Data block index) = 0

-- the words are those of the opening
pub record AreOpening (sizes : Sizes) (words : List ℕ) : Type 0 where
  pub whole : length words ≡ table_words sizes
  pub each : (name : WordName) → InRange sizes name → word_at sizes words name ≡ opening_word sizes name

-- nothing is loaded
abbrev pub nothing_loaded : Loaded
nothing_loaded = record {
  state = 0;
  record_words = replicate 66 0;
  slots = replicate 32 0;
  announcements = replicate 32 0;
  popped = replicate 32 0;
}

-- nothing is drafted
abbrev pub nothing_drafted : TryDraft
nothing_drafted = record { base = 0; overlay = 0; heads = replicate 32 0; replies = replicate 32 0 }

-- what a process knows of transfers at the opening: it has begun none, and writes the first of its two records next
abbrev pub opening_transfer : ℕ → TransferView
opening_transfer process = record {
  number = process;
  age = 0;
  next_record = 2 * process;
  installed = 0;
  first_loaded = 0;
  wish = Take;
  next = Rest;
  loaded = nothing_loaded;
  draft = nothing_drafted;
  answer = Nothing;
}
