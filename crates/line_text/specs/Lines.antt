-- The lines of bytes.
use Rattle.std.specs.Prelude.{◌≡◌, ℕ, Bool, false, ◌==◌, List, [], ◌∷◌, All}
use Rattle.std.specs.List.{slice_split}

-- the byte that ends a line
abbrev pub is_end : ℕ → Bool
is_end byte = byte == 10

-- no line ends within these bytes
abbrev pub HasNoEnd : List ℕ → Type 0
HasNoEnd bytes = All (λ byte. is_end byte ≡ false) bytes

-- the bytes between the ends of lines
abbrev pub pieces : List ℕ → List (List ℕ)
pieces bytes = slice_split is_end bytes

-- all but the last
abbrev pub front : List (List ℕ) → List (List ℕ)
front [] = []
front (last ∷ []) = []
front (piece ∷ next ∷ others) = piece ∷ front (next ∷ others)

-- the last, or nothing where there are none
abbrev pub last : List (List ℕ) → List ℕ
last [] = []
last (piece ∷ []) = piece
last (piece ∷ next ∷ others) = last (next ∷ others)

-- the lines, each of which has its end
abbrev pub lines : List ℕ → List (List ℕ)
lines bytes = front (pieces bytes)

-- what stands after the last end of a line
abbrev pub last_piece : List ℕ → List ℕ
last_piece bytes = last (pieces bytes)
