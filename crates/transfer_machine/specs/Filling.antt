-- which words of the table are set to those of the opening
use Rattle.std.specs.Prelude.{◌≡◌, ℕ, ◌==◌, ◌&&◌, nat_lt, Bool, false, if◌then◌else◌, List, length}
use Rattle.word_layout.specs.Sizes.{Sizes}
use Rattle.word_layout.specs.Names.{InRange, word_at}
use Rattle.word_layout.specs.declared.name.WordName.{WordName}
use Rattle.word_layout.specs.declared.name.WordName.TheVariants.{State, Announcement, RecordWord, Slot, Next, Data}
use Rattle.transfer_machine.specs.Opening.{opening_word, opening_record}

-- the words of these names are those of the opening, all others are as they were
pub record Fills (sizes : Sizes) (filled : WordName → Bool) (old new : List ℕ) : Type 0 where
  pub same_length : length new ≡ length old
  pub each :
      (name : WordName)
      → InRange sizes name
      → word_at sizes new name ≡ (if filled name then opening_word sizes name else word_at sizes old name)

-- the first so many words of the opening record
abbrev pub opening_record_below : Sizes → ℕ → WordName → Bool
opening_record_below sizes count State = false
opening_record_below sizes count (Announcement process) = false
opening_record_below sizes count (RecordWord row index) = (row == opening_record sizes) && nat_lt index count
opening_record_below sizes count (Slot slot) = false
opening_record_below sizes count (Next block) = false
opening_record_below sizes count (Data block index) = false

-- the first so many slots
abbrev pub slot_below : ℕ → WordName → Bool
slot_below count State = false
slot_below count (Announcement process) = false
slot_below count (RecordWord row index) = false
slot_below count (Slot slot) = nat_lt slot count
slot_below count (Next block) = false
slot_below count (Data block index) = false

-- the next words of the first so many blocks
abbrev pub next_below : ℕ → WordName → Bool
next_below count State = false
next_below count (Announcement process) = false
next_below count (RecordWord row index) = false
next_below count (Slot slot) = false
next_below count (Next block) = nat_lt block count
next_below count (Data block index) = false
