-- The numbers that words spell.
use Rattle.std.specs.Prelude.{ℕ, List, Option}
use Rattle.line_text.specs.Number.{number_of_word}

-- 1 to 20 digits of base 10, whose value is below 2^64
abbrev pub number_of : List ℕ → Option ℕ
number_of word = number_of_word 10 20 word
