-- What `parse` makes of a text of decimal digits alone.
use Rattle.std.proofs.Common.{◌≡◌, ℕ, ◌^◌, ◌&&◌, Bool, true, false, cond, List, length, Some, None, Result, Ok, Err}
use Rattle.std.proofs.Common.{rules, refl, lt-ltb, nat_lt}
use Rattle.std.specs.Result.{result_ok}
use Rattle.std.specs.Str.Parse.{ParsesUnsigned, digits_value}
use Rattle.std.proofs.lemmas.Bool.{ltb-true}
use Rattle.std.proofs.lemmas.Str.Parse.{IsNumeralModel, numerals_by_value, parse_digits}
use Rattle.command_words.specs.Number.{is_decimal, number_of}

digits : IsNumeralModel (λ text. is_decimal text ≡ true) (digits_value 10)
digits = numerals_by_value _ (search rules)

-- a text with a byte that is no digit writes no number
pub no_number : (bits : ℕ) (text : List ℕ) → is_decimal text ≡ false → number_of bits text ≡ None
no_number bits text other = rw other refl

-- a text of digits alone is parsed as the number that it writes, or refused where it writes none
pub parsed_number : {E : Type 0} (bits : ℕ) (text : List ℕ) (r : Result ℕ E) → is_decimal text ≡ true → ParsesUnsigned bits 10 text r
    → result_ok r ≡ number_of bits text
parsed_number {E} bits text (Ok n) all parsed =
    let is = parse_digits digits {E = E} bits text (Ok n) parsed all in
    rw (all, lt-ltb 0 (length text) is.0.0, lt-ltb (digits_value 10 text) (2 ^ bits) is.0.1, is.1) refl
parsed_number {E} bits text (Err e) all parsed = rw all (go (nat_lt 0 (length text)) (nat_lt (digits_value 10 text) (2 ^ bits)) refl refl)
  where
    go : (some small : Bool) → nat_lt 0 (length text) ≡ some → nat_lt (digits_value 10 text) (2 ^ bits) ≡ small
        → None ≡ cond (some && small) (Some (digits_value 10 text)) None
    go true true some small =
        absurd (parse_digits digits {E = E} bits text (Err e) parsed all (ltb-true _ _ some, ltb-true _ _ small))
    go true false some small = refl
    go false small some is = refl
