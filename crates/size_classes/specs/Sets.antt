-- sets of size classes, and what a text writes of them
use Rattle.std.specs.Prelude.{◌≡◌, ℕ, ◌^◌, ◌<◌, ◌≤◌, ◌==◌, Bool, nat_lt, nat_le, List}
use Rattle.std.specs.Prelude.{[], ◌∷◌, length, map, find, Option, Some, None, ⊤, if◌then◌else◌}
use Rattle.std.specs.List.{slice_split}
use Rattle.line_text.specs.Number.{number_of_word}

-- the byte between two sizes
abbrev pub is_comma : ℕ → Bool
is_comma byte = byte == 44

-- the number, where it is below 2^32
abbrev pub small : Option ℕ → Option ℕ
small None = None
small (Some number) = if nat_lt number (2 ^ 32) then Some number else None

-- the size that a word of 1 to 10 decimal digits writes
abbrev pub size_of : List ℕ → Option ℕ
size_of word = small (number_of_word 10 10 word)

-- each size is larger than the one before it, and the first than this number
abbrev pub RisesFrom : ℕ → List ℕ → Type 0
RisesFrom below [] = ⊤
RisesFrom below (size ∷ sizes) = (below < size) × RisesFrom size sizes

-- words write these sizes: each word its own, which rise from above this number and are at most so many
pub record Write (below most : ℕ) (words : List (List ℕ)) (sizes : List ℕ) : Type 0 where
  pub each : map size_of words ≡ map Some sizes
  pub rising : RisesFrom below sizes
  pub few : length sizes ≤ most

-- a text writes these sizes: its parts between commas do, which rise from 1 and are at most eight
abbrev pub Lists : List ℕ → List ℕ → Type 0
Lists text sizes = Write 0 8 (slice_split is_comma text) sizes

-- the first class of at least this size
abbrev pub class_for : ℕ → List ℕ → Option ℕ
class_for size classes = find (λ class. nat_le size class) classes
