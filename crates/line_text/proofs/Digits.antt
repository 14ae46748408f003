-- Digits of a base that are read one by one.
use Rattle.std.proofs.Common.{◌≡◌, ℕ, ◌+◌, ◌*◌, ◌^◌, ◌<◌, ◌≤◌, true, List, length, take, get_or, Some, None, refl, ap, sym, ◌∙◌, arith}
use Rattle.std.specs.Char.{is_digit, digit_value}
use Rattle.std.specs.List.{list_all}
use Rattle.std.specs.Str.Parse.{digits_value}
use Rattle.std.proofs.lemmas.Bool.{lt-ltb}
use Rattle.std.proofs.lemmas.Bool.Decides.{nat_tests}
use Rattle.std.proofs.lemmas.List.{take_all}
use Rattle.std.proofs.lemmas.Int.Digits.{digits_value_more}
use Rattle.std.proofs.lemmas.List.Folds.{list_all_more}
use Rattle.std.proofs.lemmas.Str.Parse.{digits_value-take-le}
use Rattle.line_text.specs.Number.{number_of_digits}

-- these are digits, and this is their number, which is below 2^64
pub record ReadsDigits (base : ℕ) (digits : List ℕ) (number : ℕ) : Type 0 where
  pub all : list_all (λ byte. is_digit byte base) digits ≡ true
  pub is : number ≡ digits_value base digits
  pub fits : number < 2 ^ 64

module _ (base : ℕ) (digits : List ℕ) (count number byte : ℕ) (within : count < length digits) (at : byte ≡ get_or digits count 0)
    (read : ReadsDigits base (take count digits) number) where
  value_more : digits_value base (take (count + 1) digits) ≡ number * base + digit_value byte
  value_more = rw (digits_value_more base digits count within, ← read.is, ← at) refl

  -- one digit more
  pub ReadsDigits-more : digit_value byte < base → number * base + digit_value byte < 2 ^ 64
      → ReadsDigits base (take (count + 1) digits) (number * base + digit_value byte)
  ReadsDigits-more small fits = record {
    all = list_all_more (λ b. is_digit b base) digits count 0 within ∙ rw (read.all, ← at) (lt-ltb (digit_value byte) base small);
    is = sym value_more;
    fits = fits;
  }

  -- digits with which the number isn't below 2^64 write none
  pub too_large : 1 ≤ base → ¬ (number * base + digit_value byte < 2 ^ 64) → number_of_digits base digits ≡ None
  too_large some large =
      let grows = digits_value-take-le base digits (count + 1) some in
      let whole : 2 ^ 64 ≤ digits_value base digits = omega (arith, large, value_more, grows) in
      grind (arith, nat_tests, whole)

-- all digits are read
pub ReadsDigits-all : (base : ℕ) (digits : List ℕ) (count number : ℕ) → length digits ≤ count
    → ReadsDigits base (take count digits) number → Some number ≡ number_of_digits base digits
ReadsDigits-all base digits count number past read =
    let whole : take count digits ≡ digits = take_all count digits past in
    let is : number ≡ digits_value base digits = read.is ∙ ap (digits_value base) whole in
    let all : list_all (λ byte. is_digit byte base) digits ≡ true = ap (list_all (λ byte. is_digit byte base)) (sym whole) ∙ read.all in
    rw (all, lt-ltb (digits_value base digits) (2 ^ 64) (rw (sym is) read.fits)) (ap Some is)
