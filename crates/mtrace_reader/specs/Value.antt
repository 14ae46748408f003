-- The numbers that words spell.
use Rattle.std.specs.Prelude.{ℕ, List, take, drop, Option, Some, None, if◌then◌else◌, codes}
use Rattle.std.specs.Str.{bytes_eq}
use Rattle.line_text.specs.Number.{number_of_word}

-- `0x`, and then 1 to 16 digits of base 16, letters of either case: so many are always below 2^64
abbrev pub hexadecimal_of : List ℕ → Option ℕ
hexadecimal_of word = if bytes_eq (take 2 word) (codes "0x") then number_of_word 16 16 (drop 2 word) else None

-- an address: `(nil)`, which is 0, or in base 16
abbrev pub address_of : List ℕ → Option ℕ
address_of word = if bytes_eq word (codes "(nil)") then Some 0 else hexadecimal_of word

-- a size: `0`, or in base 16
abbrev pub size_of : List ℕ → Option ℕ
size_of word = if bytes_eq word (codes "0") then Some 0 else hexadecimal_of word
