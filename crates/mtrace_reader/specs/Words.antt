-- How the words of a line begin.
use Rattle.std.specs.Prelude.{◌≡◌, ℕ, Bool, true, false, ◌==◌, List, [], ◌∷◌}

-- there is no word, or the first one begins with this byte
abbrev pub NoneOrBeginsWith : ℕ → List (List ℕ) → Type 0
NoneOrBeginsWith byte [] = Unit {0}
NoneOrBeginsWith byte ([] ∷ others) = ⊥
NoneOrBeginsWith byte ((first ∷ bytes) ∷ others) = first ≡ byte

-- the same, as a test
abbrev pub none_or_begins_with : ℕ → List (List ℕ) → Bool
none_or_begins_with byte [] = true
none_or_begins_with byte ([] ∷ others) = false
none_or_begins_with byte ((first ∷ bytes) ∷ others) = first == byte
