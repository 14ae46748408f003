-- What a line of a schedule means.
use Rattle.std.specs.Prelude.{ℕ, ◌^◌, ◌&&◌, nat_lt, nat_le, List, [], ◌∷◌, Option, Some, None, if◌then◌else◌, codes}
use Rattle.std.specs.Str.{bytes_eq}
use Rattle.line_text.specs.Words.{words}
use Rattle.line_text.specs.Meanings.{meaning_said}
use Rattle.line_text.specs.declared.meaning.Meaning.{Meaning}
use Rattle.line_text.specs.declared.meaning.Meaning.TheVariants.{Skipped, Says, Bad}
use Rattle.pool_machine.specs.declared.call.Call.{Call}
use Rattle.pool_machine.specs.declared.call.Call.TheVariants.{Allocate, Free, Read, Write, Search}
use Rattle.schedule_replay.specs.Numbers.{number_of, numbers_of}
use Rattle.schedule_replay.specs.declared.line.Said.{Said}
use Rattle.schedule_replay.specs.declared.line.Said.TheVariants.{Shape, Repeats}

-- a number of a process, a block, an index or a shape is below this
abbrev pub number_end : ℕ
number_end = 2 ^ 32

-- the call of a name alone
abbrev pub call_of_none : List ℕ → Option Call
call_of_none name =
    if bytes_eq name (codes "allocate") then Some Allocate else (if bytes_eq name (codes "search") then Some Search else None)

-- of a name and a block
abbrev pub call_of_one : List ℕ → ℕ → Option Call
call_of_one name block = if bytes_eq name (codes "free") && nat_lt block number_end then Some (Free block) else None

-- of a name, a block and an index
abbrev pub call_of_two : List ℕ → ℕ → ℕ → Option Call
call_of_two name block index =
    if bytes_eq name (codes "read") && nat_lt block number_end && nat_lt index number_end then Some (Read block index) else None

-- and of a name, a block, an index and a value
abbrev pub call_of_three : List ℕ → ℕ → ℕ → ℕ → Option Call
call_of_three name block index value =
    if bytes_eq name (codes "write") && nat_lt block number_end && nat_lt index number_end then Some (Write block index value) else None

-- the call that a name and numbers say
abbrev pub call_of : List ℕ → List ℕ → Option Call
call_of name [] = call_of_none name
call_of name (block ∷ []) = call_of_one name block
call_of name (block ∷ index ∷ []) = call_of_two name block index
call_of name (block ∷ index ∷ value ∷ []) = call_of_three name block index value
call_of name numbers = None

-- the call that a name and words say
abbrev pub said_call : List ℕ → Option (List ℕ) → Option Call
said_call name None = None
said_call name (Some numbers) = call_of name numbers

-- a shape has four numbers
abbrev pub shape_of : List ℕ → Option Said
shape_of (processes ∷ batches ∷ words ∷ quantum ∷ []) =
    if nat_lt processes number_end && nat_lt batches number_end && nat_lt words number_end && nat_lt quantum number_end
    then Some (Shape (processes ∷ batches ∷ words ∷ quantum ∷ []))
    else None
shape_of numbers = None

-- the shape that words say
abbrev pub said_shape : Option (List ℕ) → Option Said
said_shape None = None
said_shape (Some numbers) = shape_of numbers

-- a call of a process is repeated 1 to 65536 times
abbrev pub repeat_of : ℕ → ℕ → Call → Option Said
repeat_of count by call =
    if nat_lt 0 count && nat_le count (2 ^ 16) && nat_lt by number_end
    then Some (Repeats count (record { by = by; call = call }))
    else None

-- where count, process and call are said
abbrev pub repeat_of_all : Option ℕ → Option ℕ → Option Call → Option Said
repeat_of_all (Some count) (Some by) (Some call) = repeat_of count by call
repeat_of_all count by call = None

-- what a count and the words behind it say
abbrev pub said_repeat : List ℕ → List (List ℕ) → Option Said
said_repeat count (by ∷ name ∷ words) = repeat_of_all (number_of count) (number_of by) (said_call name (numbers_of words))
said_repeat count words = None

-- what a first word and those behind it say
abbrev pub said_of : List ℕ → List (List ℕ) → Option Said
said_of first words = if bytes_eq first (codes "shape") then said_shape (numbers_of words) else said_repeat first words

-- the meaning of words: none are skipped, and any that say nothing are bad
abbrev pub meaning_of_words : List (List ℕ) → Meaning Said
meaning_of_words [] = Skipped
meaning_of_words (first ∷ words) = meaning_said (said_of first words)

-- the meaning of a line
abbrev pub meaning_of : List ℕ → Meaning Said
meaning_of line = meaning_of_words (words line)
