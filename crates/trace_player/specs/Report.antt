-- The report: a line a file, and a line of the sums.
use Rattle.std.specs.Prelude.{ℕ, ◌+◌, List, [], ◌∷◌, ◌++◌, map, zip, flat_map, sum_by, codes, decimal}
use Rattle.trace_player.specs.declared.tally.Tally.{Tally}

-- the columns of the report, in its order: a name, and the number of a tally that stands behind it
abbrev pub columns : List (List ℕ × (Tally → ℕ))
columns =
    (codes "news", λ tally. tally.news)
    ∷ (codes "frees", λ tally. tally.frees)
    ∷ (codes "big", λ tally. tally.big)
    ∷ (codes "failed", λ tally. tally.failed)
    ∷ (codes "stray", λ tally. tally.stray)
    ∷ (codes "twice", λ tally. tally.twice)
    ∷ (codes "refused", λ tally. tally.refused)
    ∷ (codes "peak", λ tally. tally.peak)
    ∷ (codes "left", λ tally. tally.left)
    ∷ (codes "cut", λ tally. tally.cut)
    ∷ []

-- the columns of one tally: a name and a number each
abbrev pub columns_of : Tally → List (List ℕ × ℕ)
columns_of tally = map (λ column. (column.0, column.1 tally)) columns

-- the columns of the sums over the tallies, the peaks too
abbrev pub sums_of : List Tally → List (List ℕ × ℕ)
sums_of tallies = map (λ column. (column.0, sum_by column.1 tallies)) columns

-- the numbers of the second columns added to those of the first, place by place
abbrev pub plus : List (List ℕ × ℕ) → List (List ℕ × ℕ) → List (List ℕ × ℕ)
plus some more = map (λ both. (both.0.0, both.0.1 + both.1.1)) (zip some more)

-- a column's text
abbrev pub column_text : List ℕ × ℕ → List ℕ
column_text column = flat_map (λ text. text) (codes " " ∷ column.0 ∷ codes " " ∷ decimal column.1 ∷ [])

-- a line: what it is about, and its columns
abbrev pub line_text : List ℕ → List (List ℕ × ℕ) → List ℕ
line_text label line = label ++ codes ":" ++ flat_map column_text line ++ codes "\n"

-- the lines of files that are numbered from here on
abbrev pub lines_from : ℕ → List Tally → List ℕ
lines_from number [] = []
lines_from number (tally ∷ others) = line_text (decimal number) (columns_of tally) ++ lines_from (number + 1) others

-- the report of some tallies
abbrev pub report : List Tally → List ℕ
report tallies = lines_from 1 tallies ++ line_text (codes "all") (sums_of tallies)
