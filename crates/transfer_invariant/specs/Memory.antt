-- the words by their names, what a step leaves of them, and the views and states that belong to them
use Rattle.std.specs.Prelude.{◌≡◌, ◌≢◌, ℕ, ◌+◌, ◌-◌, ◌==◌, Bool, true, false, nat_lt, if◌then◌else◌}
use Rattle.word_layout.specs.Sizes.{Sizes}
use Rattle.word_layout.specs.Names.{InRange}
use Rattle.word_layout.specs.Packing.{tag_of, value_of}
use Rattle.word_layout.specs.declared.name.WordName.{WordName}
use Rattle.word_layout.specs.declared.name.WordName.TheVariants.{State, Announcement, RecordWord, Slot, Next, Data}
use Rattle.transfer_machine.specs.Words.{name_of, left_by}
use Rattle.transfer_machine.specs.States.{StackState}
use Rattle.transfer_machine.specs.declared.action.Action.{Action}
use Rattle.transfer_machine.specs.declared.transfer.TransferView.{TransferView}

-- the words by their names
abbrev pub Words : Type 0
Words = WordName → ℕ

-- the views of the processes
abbrev pub Views : Type 0
Views = ℕ → TransferView

-- the states by their numbers
abbrev pub States : Type 0
States = ℕ → StackState

-- the number of the present state
unfoldable pub state_tag : Words → ℕ
state_tag words = tag_of (words State)

-- the current record
unfoldable pub current_record : Words → ℕ
current_record words = value_of (words State)

-- the tag of a record word
unfoldable pub word_tag : Words → ℕ → ℕ → ℕ
word_tag words row index = tag_of (words (RecordWord row index))

-- the value of a record word
unfoldable pub word_value : Words → ℕ → ℕ → ℕ
word_value words row index = value_of (words (RecordWord row index))

-- the tag of a slot
unfoldable pub slot_tag : Words → ℕ → ℕ
slot_tag words slot = tag_of (words (Slot slot))

-- the value of a slot
unfoldable pub slot_value : Words → ℕ → ℕ
slot_value words slot = value_of (words (Slot slot))

-- the value that a word of the record of a state has: the base, the overlay's length, the overlay and zeros, the replies
unfoldable pub state_value : ℕ → StackState → ℕ → ℕ
state_value processes s index =
    if index == 0 then s.base
    else (if index == 1 then s.height - s.base
    else (if nat_lt index (processes + 2) then (if nat_lt (index - 2) (s.height - s.base) then s.content (s.base + (index - 2)) else 0)
    else s.reply (index - (processes + 2))))

-- whether the shared stack is kept in the word of that name
abbrev pub is_stack_word : WordName → Bool
is_stack_word State = true
is_stack_word (Announcement process) = true
is_stack_word (RecordWord row index) = true
is_stack_word (Slot slot) = true
is_stack_word (Next block) = false
is_stack_word (Data block index) = false

-- an action makes the old words the new ones: only the one that it is on changes
pub record Acted (sizes : Sizes) (action : Action) (old new : Words) : Type 0 where
  pub here : new (name_of action) ≡ left_by action (old (name_of action))
  pub elsewhere : (name : WordName) → InRange sizes name → name ≢ name_of action → new name ≡ old name

-- the view of one process becomes another, all others stay
pub record Moved (process : ℕ) (v : TransferView) (old new : Views) : Type 0 where
  pub here : new process ≡ v
  pub elsewhere : (other : ℕ) → other ≢ process → new other ≡ old other
