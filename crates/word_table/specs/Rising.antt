-- The rule of a word that never falls.
use Rattle.std.specs.Prelude.{◌≡◌, ℕ, ◌≤◌, List, length, slice_index}
use mathlib.Core.Option.{some}
use lib.ListN.{get_elem?}

-- there is one word, and it is at least what each seat has met
pub record IsAboveAll (words views : List ℕ) : Type 0 where
  pub one : length words ≡ 1
  pub above : (number seen : ℕ) → get_elem? views number ≡ some seen → seen ≤ slice_index words 0
