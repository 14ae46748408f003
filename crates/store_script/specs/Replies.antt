-- What a store answers to commands, by which of its puts are refused.
use Rattle.std.specs.Prelude.{ℕ, ◌+◌, Bool, false, ◌==◌, nat_eq, not, List, [], ◌∷◌, ◌++◌, fold, filter, slice_index_or, Option, Some}
use Rattle.std.specs.Prelude.{None, if◌then◌else◌}
use Rattle.std.specs.Map.{lookup}
use Rattle.store_script.specs.declared.quad.Quad.{Quad}
use Rattle.store_script.specs.declared.command.Command.{Command}
use Rattle.store_script.specs.declared.command.Command.TheVariants.{Put, Get, Set, Del}
use Rattle.store_script.specs.declared.answered.Answered.{Answered}
use Rattle.store_script.specs.declared.answered.Answered.TheVariants.{Done, Full, Absent, There, Value}

-- what is kept for a key: the numbers, and which put of an absent key it was that brought them, counted from 0
pub record Kept : Type 0 where
  pub put : ℕ
  pub value : Quad

-- a walk over commands: the present keys with what is kept for them, how many puts named an absent key, and the answers so far
pub record Walk : Type 0 where
  pub present : List (ℕ × Kept)
  pub puts : ℕ
  pub answers : List Answered

-- the walk before the first command
abbrev pub begun : Walk
begun = record { present = []; puts = 0; answers = [] }

-- what is kept for a key, where it is present
abbrev pub kept : Walk → ℕ → Option Kept
kept walk key = lookup (nat_eq key) walk.present

-- the present keys but this one
abbrev pub present_but : Walk → ℕ → List (ℕ × Kept)
present_but walk key = filter (λ pair. not (pair.0 == key)) walk.present

-- whether the put of an absent key with this number is refused
abbrev pub is_refused : List Bool → ℕ → Bool
is_refused refused put = slice_index_or refused put false

-- the same walk with one more answer
abbrev pub answering : Walk → Answered → Walk
answering walk answer = record walk { answers = walk.answers ++ answer ∷ [] }

-- a put of an absent key was refused
abbrev pub with_full : Walk → Walk
with_full walk = record (answering walk Full) { puts = walk.puts + 1 }

-- a put brought numbers for a key
abbrev pub with_put : Walk → ℕ → Quad → Walk
with_put walk key value = record (answering walk Done) {
  present = (key, record { put = walk.puts; value = value }) ∷ walk.present;
  puts = walk.puts + 1;
}

-- the number of an index is another one
abbrev pub changed : Quad → ℕ → ℕ → Quad
changed value index number =
    if index == 0 then record value { a = number }
    else (if index == 1 then record value { b = number }
    else (if index == 2 then record value { c = number }
    else record value { d = number }))

-- after a put of a key for which this is kept
abbrev pub after_put : List Bool → Walk → ℕ → Quad → Option Kept → Walk
after_put refused walk key value (Some before) = answering walk There
after_put refused walk key value None = if is_refused refused walk.puts then with_full walk else with_put walk key value

-- after a get
abbrev pub after_get : Walk → ℕ → Option Kept → Walk
after_get walk key None = answering walk Absent
after_get walk key (Some before) = answering walk (Value key before.value)

-- after a set
abbrev pub after_set : Walk → ℕ → ℕ → ℕ → Option Kept → Walk
after_set walk key index number None = answering walk Absent
after_set walk key index number (Some before) = record (answering walk Done) {
  present = (key, record before { value = changed before.value index number }) ∷ present_but walk key;
}

-- after a del
abbrev pub after_del : Walk → ℕ → Option Kept → Walk
after_del walk key None = answering walk Absent
after_del walk key (Some before) = record (answering walk Done) { present = present_but walk key }

-- after one more command
abbrev pub after : List Bool → Walk → Command → Walk
after refused walk (Put key slot value) = after_put refused walk key value (kept walk key)
after refused walk (Get key slot) = after_get walk key (kept walk key)
after refused walk (Set key slot index number) = after_set walk key index number (kept walk key)
after refused walk (Del key slot) = after_del walk key (kept walk key)

-- after these commands
abbrev pub walked : List Bool → List Command → Walk
walked refused commands = fold (after refused) begun commands

-- the answers to commands
abbrev pub answers_to : List Bool → List Command → List Answered
answers_to refused commands = (walked refused commands).answers
