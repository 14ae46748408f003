-- The numbers that words spell.
use Rattle.std.specs.Prelude.{ℕ, nat_le, List, [], ◌∷◌, length, ◌++◌, Option, Some, None, if◌then◌else◌}
use Rattle.line_text.specs.Number.{number_of_word}

-- 1 to 20 digits of base 10, whose value is below 2^64
abbrev pub number_of : List ℕ → Option ℕ
number_of word = number_of_word 10 20 word

-- a number before others, where all of them are numbers
abbrev pub with_number : Option ℕ → Option (List ℕ) → Option (List ℕ)
with_number (Some number) (Some numbers) = Some (number ∷ numbers)
with_number (Some number) None = None
with_number None numbers = None

-- the numbers that words spell, where each spells one
abbrev pub numbers_of : List (List ℕ) → Option (List ℕ)
numbers_of [] = Some []
numbers_of (word ∷ words) = with_number (number_of word) (numbers_of words)

-- at most four
abbrev pub few : Option (List ℕ) → Option (List ℕ)
few None = None
few (Some numbers) = if nat_le (length numbers) 4 then Some numbers else None

-- numbers behind those that were found
abbrev pub behind : List ℕ → Option (List ℕ) → Option (List ℕ)
behind found None = None
behind found (Some numbers) = Some (found ++ numbers)
