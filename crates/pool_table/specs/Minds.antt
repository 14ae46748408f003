-- what proofs know of one process
use Rattle.std.specs.Prelude.{◌≡◌, ℕ, ◌==◌, ◌&&◌, if◌then◌else◌, None, Some, List, [], ◌∷◌, length, take}
use Rattle.word_layout.specs.Sizes.{Sizes}
use Rattle.pool_model.specs.declared.entry.Entry.{Entry}
use Rattle.pool_model.specs.History.{own, grip}
use Rattle.pool_machine.specs.Pools.{opening_view}
use Rattle.pool_machine.specs.declared.view.ProcessView.{ProcessView}
use Rattle.interleaving_core.specs.Invariant.{Known}

-- a data word that a process knows
pub record KnownWord : Type 0 where
  pub block : ℕ
  pub index : ℕ
  pub value : ℕ

-- the value of each data word by these, the last one first
abbrev pub known_in : List KnownWord → Known
known_in [] = λ b k. None
known_in (word ∷ more) = λ b k. if b == word.block && (k == word.index) then Some word.value else known_in more b k

-- what is known of a process: the machine's view, what it has seen of the one history, the data words that it knows, its number of steps
pub record Mind : Type 0 where
  pub view : ProcessView
  pub seen : List Entry
  pub known : List KnownWord
  pub moves : ℕ

-- at the opening
abbrev pub opening_mind : Sizes → ℕ → Mind
opening_mind sizes process = record { view = opening_view sizes process; seen = []; known = []; moves = 0 }

-- the number of its process
abbrev pub number_of : Mind → ℕ
number_of mind = mind.view.transfer.number

-- its entries, and the blocks that it holds by them
abbrev pub entries_in : Mind → List Entry
entries_in mind = own mind.seen (number_of mind)

-- the blocks that its process holds by its entries
abbrev pub held_in : Mind → List ℕ
held_in mind = grip (entries_in mind)

-- what process i has seen is a beginning of the history, and has all its entries
pub record SeesOwn (history : List Entry) (i : ℕ) (seen : List Entry) : Type 0 where
  pub own_seen : own seen i ≡ own history i
  pub beginning : take (length seen) history ≡ seen
