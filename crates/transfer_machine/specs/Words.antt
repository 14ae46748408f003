-- a step on the words of the table, and the content of the shared stack
use Rattle.std.specs.Prelude.{◌≡◌, ℕ, zero, suc, ◌+◌, ◌-◌, ◌==◌, nat_lt, if◌then◌else◌, List, [], ◌∷◌, ◌++◌, length}
use Rattle.word_layout.specs.Sizes.{Sizes}
use Rattle.word_layout.specs.Names.{word_at, set_word, table_words}
use Rattle.word_layout.specs.Packing.{value_of}
use Rattle.word_layout.specs.declared.name.WordName.{WordName}
use Rattle.word_layout.specs.declared.name.WordName.TheVariants.{State, RecordWord, Slot}
use Rattle.transfer_machine.specs.Machine.{action_of, CanAct, CanMeet}
use Rattle.transfer_machine.specs.declared.transfer.TransferView.{TransferView}
use Rattle.transfer_machine.specs.declared.action.Action.{Action}
use Rattle.transfer_machine.specs.declared.action.Action.TheVariants.{Load, Store, Exchange}

-- the word that an action is on
abbrev pub name_of : Action → WordName
name_of (Load name) = name
name_of (Store name word) = name
name_of (Exchange name old new) = name

-- what an action leaves of the word that it met
abbrev pub left_by : Action → ℕ → ℕ
left_by (Load name) met = met
left_by (Store name word) met = word
left_by (Exchange name old new) met = if met == old then new else met

-- the word that an action meets
abbrev pub met_word : Sizes → List ℕ → Action → ℕ
met_word sizes words action = word_at sizes words (name_of action)

-- the words after an action: only the one that it is on changes
abbrev pub acted : Sizes → List ℕ → Action → List ℕ
acted sizes words action = set_word sizes words (name_of action) (left_by action (met_word sizes words action))

-- a view can make its next step on these words
pub record CanStep (sizes : Sizes) (words : List ℕ) (v : TransferView) : Type 0 where
  pub whole : length words ≡ table_words sizes
  pub act : CanAct sizes v
  pub meet : CanMeet sizes v (met_word sizes words (action_of sizes v))

-- the current record
abbrev pub current_record : Sizes → List ℕ → ℕ
current_record sizes words = value_of (word_at sizes words State)

-- how many slots hold true content
abbrev pub stack_base : Sizes → List ℕ → ℕ
stack_base sizes words = value_of (word_at sizes words (RecordWord (current_record sizes words) 0))

-- how many batches the stack has
abbrev pub stack_height : Sizes → List ℕ → ℕ
stack_height sizes words = stack_base sizes words + value_of (word_at sizes words (RecordWord (current_record sizes words) 1))

-- the head at a place of the stack: below the base a slot's, from there on the overlay's
abbrev pub stack_at : Sizes → List ℕ → ℕ → ℕ
stack_at sizes words place =
    if nat_lt place (stack_base sizes words) then value_of (word_at sizes words (Slot place))
    else value_of (word_at sizes words (RecordWord (current_record sizes words) (2 + (place - stack_base sizes words))))

-- the first so many values of a function
unfoldable pub first_of : ℕ → (ℕ → ℕ) → List ℕ
first_of zero values = []
first_of (suc count) values = first_of count values ++ values count ∷ []

-- the content of the stack: the heads from the bottom
abbrev pub stack : Sizes → List ℕ → List ℕ
stack sizes words = first_of (stack_height sizes words) (stack_at sizes words)
