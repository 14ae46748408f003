-- A number of the command line.
use Rattle.std.specs.Prelude.{ℕ, ◌^◌, ◌&&◌, Bool, List, length, Option, Some, None, if◌then◌else◌, nat_lt}
use Rattle.std.specs.Char.{is_ascii_digit}
use Rattle.std.specs.List.{list_all}
use Rattle.std.specs.Str.Parse.{digits_value}

-- whether the text is decimal digits alone
abbrev pub is_decimal : List ℕ → Bool
is_decimal text = list_all is_ascii_digit text

-- whether the text is one decimal digit or more, and nothing else
abbrev pub is_numeral : List ℕ → Bool
is_numeral text = is_decimal text && nat_lt 0 (length text)

-- the number of at most so many bits that the text writes; none where it writes no such number
abbrev pub number_of : ℕ → List ℕ → Option ℕ
number_of bits text = if is_numeral text && nat_lt (digits_value 10 text) (2 ^ bits) then Some (digits_value 10 text) else None
