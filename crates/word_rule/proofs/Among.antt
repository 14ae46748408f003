-- A seat is among words and views that meet the rule: at opening, and after each kind of move.
use Rattle.std.proofs.Common.{ℕ, List, [], ◌∷◌, ◌++◌, length, refl}
use Rattle.std.specs.Prelude.{slice_set}
use Rattle.word_rule.specs.Moves.{Splits, IsAmong, Learned}
use Rattle.word_rule.proofs.Seating.{seat_set_same, seat_before_new, seat_new}

module _ {V : Type 0} (holds : List ℕ → List V → Type 0) where
  -- the first seat is, where the rule holds of the opening words and its view alone
  pub first_is_among : (words : List ℕ) (view : V) → holds words (view ∷ []) → IsAmong holds view
  first_is_among words view held = record { words = words; views = view ∷ []; number = 0; held = held; seated = refl }

  -- a seat's view before a step is among words and views that meet the rule
  pub before_is_among : (learn : List ℕ → List V → V → V) (number place : ℕ) (write : ℕ → ℕ) (before : V) (met : ℕ) (after : V)
      → Learned holds learn number place write before met after → IsAmong holds before
  before_is_among learn number place write before met after step = record {
    words = step.words;
    views = step.views;
    number = number;
    held = step.held;
    seated = step.seated;
  }

  -- and so is its view after the step
  pub after_is_among : (learn : List ℕ → List V → V → V) (number place : ℕ) (write : ℕ → ℕ) (before : V) (met : ℕ) (after : V)
      → Learned holds learn number place write before met after → IsAmong holds after
  after_is_among learn number place write before met after step = record {
    words = slice_set step.words place (write met);
    views = slice_set step.views number after;
    number = number;
    held = step.kept;
    seated = seat_set_same step.views number before after step.seated;
  }

  -- where a split owes nothing more whatever the seat's number is, both halves are among the same words and views
  pub left_is_among : (view left right : V) → ((number : ℕ) → Splits holds number view left right) → IsAmong holds view → IsAmong holds left
  left_is_among view left right splits among = record {
    words = among.words;
    views = slice_set among.views among.number left ++ right ∷ [];
    number = among.number;
    held = splits among.number among.words among.views among.held among.seated;
    seated = seat_before_new (slice_set among.views among.number left) among.number left right
        (seat_set_same among.views among.number view left among.seated);
  }

  -- and so is the new seat, behind all others
  pub right_is_among : (view left right : V) → ((number : ℕ) → Splits holds number view left right) → IsAmong holds view
      → IsAmong holds right
  right_is_among view left right splits among = record {
    words = among.words;
    views = slice_set among.views among.number left ++ right ∷ [];
    number = length (slice_set among.views among.number left);
    held = splits among.number among.words among.views among.held among.seated;
    seated = seat_new (slice_set among.views among.number left) right;
  }
