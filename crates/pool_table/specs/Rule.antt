-- the rule of the table
use Rattle.std.specs.Prelude.{◌≡◌, ℕ, ◌+◌, ◌<◌, ◌≤◌, ◌==◌, if◌then◌else◌, Bool, true, List, [], ◌∷◌, length}
use mathlib.Core.Option.{some}
use lib.ListN.{get_elem?}
use Rattle.word_layout.specs.Sizes.{Sizes, IsShape}
use Rattle.word_layout.specs.Names.{table_words, word_at}
use Rattle.pool_model.specs.declared.entry.Entry.{Entry}
use Rattle.pool_model.specs.History.{own, grip}
use Rattle.batch_invariant.specs.Batches.{ProcessViews}
use Rattle.interleaving_core.specs.Invariant.{MeetsInvariant, DataHolds}
use Rattle.pool_table.specs.Minds.{Mind, opening_mind, number_of, known_in, SeesOwn}
use Rattle.pool_table.specs.Views.{SeatView, minds_of}

-- the mind of each process, by its number
abbrev pub Minds : Type 0
Minds = ℕ → Mind

-- the machine's views
abbrev pub views_of : Minds → ProcessViews
views_of minds = λ i. (minds i).view

-- one of so many processes has seen the whole history
pub record OneSeesAll (processes : ℕ) (minds : Minds) (history : List Entry) : Type 0 where
  pub process : ℕ
  pub low : process < processes
  pub all : (minds process).seen ≡ history

-- the words and the minds of all processes meet the invariant, with this history
pub record MindsHold (sizes : Sizes) (words : List ℕ) (minds : Minds) (history : List Entry) : Type 0 where
  -- the words are those of a table
  pub shape : IsShape sizes
  pub whole : length words ≡ table_words sizes
  pub meets : MeetsInvariant sizes words (views_of minds) history
  -- each process has seen a beginning of the history; where there are entries, one of them has seen all
  pub sees : (i : ℕ) → i < sizes.processes → SeesOwn history i (minds i).seen
  pub whole_seen : 0 < length history → OneSeesAll sizes.processes minds history
  -- each data word that a process knows is one of a block that it holds, and holds that value
  pub data_words : (i : ℕ) → i < sizes.processes
      → DataHolds sizes (word_at sizes words) (grip (own history i)) (known_in (minds i).known)

-- a fact of all minds of a list, and of all minds that seats have
abbrev pub EachMind : (Mind → Type 0) → List Mind → Type 0
EachMind Fact [] = Unit {0}
EachMind Fact (mind ∷ more) = Fact mind × EachMind Fact more

-- each mind that a seat has, its own or one that it took in, meets the fact
abbrev pub EachSeat : (Mind → Type 0) → List SeatView → Type 0
EachSeat Fact [] = Unit {0}
EachSeat Fact (v ∷ more) = EachMind Fact (minds_of v) × EachSeat Fact more

-- how many minds of a list are those of process n, and how many that seats have
abbrev pub one_if : Bool → ℕ
one_if is = if is then 1 else 0

-- so many minds of a list are those of process n
abbrev pub count_in : ℕ → List Mind → ℕ
count_in n [] = 0
count_in n (mind ∷ more) = one_if (number_of mind == n) + count_in n more

-- and so many of all minds that seats have
abbrev pub count_seated : ℕ → List SeatView → ℕ
count_seated n [] = 0
count_seated n (v ∷ more) = count_in n (minds_of v) + count_seated n more

-- a mind in a seat is that of the process with its number, whose seat was made
abbrev pub IsSeated : ℕ → Minds → Mind → Type 0
IsSeated made minds mind = (number_of mind < made) × (minds (number_of mind) ≡ mind)

-- Which process has which seat, found by the number in the seat's view: a seat's place says nothing.
pub record Numbered (sizes : Sizes) (minds : Minds) (views : List SeatView) : Type 0 where
  -- so many processes have had their seats made
  pub seats : ℕ
  pub few : seats ≤ sizes.processes
  -- each of them has its mind once, in a seat of its own or in one that took it in; the others have their opening minds
  pub each : EachSeat (IsSeated seats minds) views
  pub once : (n : ℕ) → n < seats → count_seated n views ≡ 1
  pub unmade : (n : ℕ) → seats ≤ n → minds n ≡ opening_mind sizes n
  -- the seat of process 0 counts the seats, and the seat of each process has the shape
  pub counted : (place : ℕ) (v : SeatView) → get_elem? views place ≡ some v → v.of_process ≡ true → number_of v.mind ≡ 0 → v.made ≡ seats
  pub shaped : (place : ℕ) (v : SeatView) → get_elem? views place ≡ some v → v.of_process ≡ true → v.sizes ≡ sizes

-- the rule: there are minds of all processes and a history with which the words meet the invariant, and seats have these minds
pub record Holds (words : List ℕ) (views : List SeatView) : Type 0 where
  pub sizes : Sizes
  pub minds : Minds
  pub history : List Entry
  pub holds : MindsHold sizes words minds history
  pub numbered : Numbered sizes minds views
