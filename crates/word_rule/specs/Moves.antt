-- What a move of a seat owes to a rule, and what it tells the seat.
-- `holds words views` is the rule. A seat's number is its place among the views.
use Rattle.std.specs.Prelude.{◌≡◌, ◌≢◌, ℕ, ◌<◌, ◌^◌, ◌==◌, if◌then◌else◌, List, [], ◌∷◌, ◌++◌, slice_index, slice_set}
use mathlib.Core.Option.{some}
use lib.ListN.{get_elem?}

-- a load leaves the word as it is
abbrev pub unchanged : ℕ → ℕ
unchanged word = word

-- a store replaces the word, whatever it is
abbrev pub replaced_by : ℕ → ℕ → ℕ
replaced_by value word = value

-- a compare and exchange replaces the word where it is the old one
abbrev pub exchanged : ℕ → ℕ → ℕ → ℕ
exchanged old new word = if word == old then new else word

-- the words once one of them was written: it is `write` of what it was
abbrev pub written : List ℕ → ℕ → (ℕ → ℕ) → List ℕ
written words place write = slice_set words place (write (slice_index words place))

module _ {V : Type 0} (holds : List ℕ → List V → Type 0) where
  -- Whatever the words and the views of the others are, the rule still holds once this word is written and this seat's view has learned
  -- of it.
  abbrev pub Keeps : ℕ → V → ℕ → (ℕ → ℕ) → (List ℕ → List V → V → V) → Type 0
  Keeps number view place write learn =
      (words : List ℕ) (views : List V) → holds words views → get_elem? views number ≡ some view → slice_index words place < 2 ^ 64
      → holds (written words place write) (slice_set views number (learn words views view))

  -- Whatever the words and the views of the others are, the rule still holds once this seat keeps the left view and a new seat has the
  -- right one.
  abbrev pub Splits : ℕ → V → V → V → Type 0
  Splits number view left right =
      (words : List ℕ) (views : List V) → holds words views → get_elem? views number ≡ some view
      → holds words (slice_set views number left ++ right ∷ [])

  -- Whatever the words and the views of the others are, the rule still holds once this seat has both views and the other seat has a
  -- spent one.
  abbrev pub Joins : ℕ → V → ℕ → V → V → V → Type 0
  Joins number view other taken both spent =
      (words : List ℕ) (views : List V) → holds words views → get_elem? views number ≡ some view → other ≢ number
      → get_elem? (slice_set views number both) other ≡ some taken → holds words (slice_set (slice_set views number both) other spent)

  -- There are words and views that meet the rule, and a seat among them has this view.
  pub record IsAmong (view : V) : Type 0 where
    pub words : List ℕ
    pub views : List V
    pub number : ℕ
    pub held : holds words views
    pub seated : get_elem? views number ≡ some view

  -- One step as it happened: there were words and views that met the rule, this seat's view among them. The step met this word, which
  -- became `write` of it, the view learned, and the rule held again.
  pub record Learned (learn : List ℕ → List V → V → V) (number place : ℕ) (write : ℕ → ℕ) (before : V) (met : ℕ) (after : V) : Type 0 where
    pub words : List ℕ
    pub views : List V
    pub held : holds words views
    pub seated : get_elem? views number ≡ some before
    pub found : slice_index words place ≡ met
    pub learned : after ≡ learn words views before
    pub kept : holds (slice_set words place (write met)) (slice_set views number after)
