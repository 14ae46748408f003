-- The words of a line.
use Rattle.std.specs.Prelude.{ℕ, Bool, true, false, ◌==◌, List, [], ◌∷◌, filter}
use Rattle.std.specs.List.{slice_split}

-- the byte between two words
abbrev pub is_space : ℕ → Bool
is_space byte = byte == 32

-- whether a run of bytes is a word, since two spaces in a row have an empty one between them
abbrev pub has_bytes : List ℕ → Bool
has_bytes [] = false
has_bytes (byte ∷ bytes) = true

-- the words of a line: its longest runs of bytes other than the space
abbrev pub words : List ℕ → List (List ℕ)
words line = filter has_bytes (slice_split is_space line)
