-- the content of the stack, read off the words
use Rattle.std.specs.Prelude.{◌≡◌, ℕ, ◌+◌, ◌-◌, ◌<◌, nat_lt, if◌then◌else◌, List}
use Rattle.word_layout.specs.Sizes.{Sizes}
use Rattle.transfer_machine.specs.States.{StackState}
use Rattle.transfer_machine.specs.Words.{stack_base, stack_height, stack_at, first_of, stack}
use Rattle.transfer_invariant.specs.Memory.{Words, current_record, word_value, slot_value}

-- how many slots hold true content: word 0 of the current record
unfoldable pub shown_base : Words → ℕ
shown_base words = word_value words (current_record words) 0

-- how many batches the stack has: word 1 counts those of the overlay
unfoldable pub shown_height : Words → ℕ
shown_height words = shown_base words + word_value words (current_record words) 1

-- the head at a place of the stack: below the base a slot's, from there on the overlay's
unfoldable pub shown_head : Words → ℕ → ℕ
shown_head words place =
    if nat_lt place (shown_base words) then slot_value words place
    else word_value words (current_record words) (2 + (place - shown_base words))

-- the words show a state: its base, its height, and its content; and, for so many processes, its replies
pub record Shows (processes : ℕ) (words : Words) (s : StackState) : Type 0 where
  pub base : shown_base words ≡ s.base
  pub height : shown_height words ≡ s.height
  pub content : (place : ℕ) → place < s.height → shown_head words place ≡ s.content place
  pub reply : (o : ℕ) → o < processes → word_value words (current_record words) (processes + 2 + o) ≡ s.reply o

-- two memories show the same content
pub record SameContent (old new : Words) : Type 0 where
  pub height : shown_height new ≡ shown_height old
  pub content : (place : ℕ) → place < shown_height old → shown_head new place ≡ shown_head old place

-- the words of a table show a state: so does the list of the heads of the stack, from the bottom
pub record TableShows (sizes : Sizes) (table : List ℕ) (s : StackState) : Type 0 where
  pub base : stack_base sizes table ≡ s.base
  pub height : stack_height sizes table ≡ s.height
  pub content : (place : ℕ) → place < s.height → stack_at sizes table place ≡ s.content place
  pub heads : stack sizes table ≡ first_of s.height s.content
