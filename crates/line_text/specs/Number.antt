-- The numbers that words write.
use Rattle.std.specs.Prelude.{ℕ, ◌^◌, ◌&&◌, nat_lt, nat_le, List, length, Option, Some, None, if◌then◌else◌}
use Rattle.std.specs.Char.{is_digit}
use Rattle.std.specs.List.{list_all}
use Rattle.std.specs.Str.Parse.{digits_value}

-- the number below 2^64 that digits of a base write
abbrev pub number_of_digits : ℕ → List ℕ → Option ℕ
number_of_digits base digits =
    if list_all (λ byte. is_digit byte base) digits && nat_lt (digits_value base digits) (2 ^ 64)
    then Some (digits_value base digits)
    else None

-- the number below 2^64 that a word writes, of at least one digit and at most so many
abbrev pub number_of_word : ℕ → ℕ → List ℕ → Option ℕ
number_of_word base most word =
    if nat_lt 0 (length word) && nat_le (length word) most then number_of_digits base word else None
