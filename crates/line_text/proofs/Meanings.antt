-- What meanings of lines say, one after the other.
use Rattle.std.proofs.Common.{◌≡◌, ℕ, ◌+◌, ◌≤◌, true, false, List, [], ◌∷◌, ◌++◌, length, Some, refl, ap, ◌∙◌, arith}
use Rattle.std.specs.Option.{option_or}
use Rattle.std.specs.Bool.{then_some}
use Rattle.line_text.specs.declared.meaning.Meaning.{Meaning}
use Rattle.line_text.specs.declared.meaning.Meaning.TheVariants.{Skipped, Says, Bad}
use Rattle.line_text.specs.Meanings.{said, first_bad, is_bad}

-- what one more meaning adds
pub said-append : {T : Type 0} (before after : List (Meaning T)) → said (before ++ after) ≡ said before ++ said after
said-append [] after = refl
said-append (Skipped ∷ before) after = said-append before after
said-append (Says thing ∷ before) after = ap (λ others. thing ∷ others) (said-append before after)
said-append (Bad ∷ before) after = said-append before after

-- the first bad line of two parts is that of the first part, or else that of the second
pub first_bad-append : {T : Type 0} (number : ℕ) (before after : List (Meaning T))
    → first_bad number (before ++ after) ≡ option_or (first_bad number before) (first_bad (number + length before) after)
first_bad-append number [] after = ap (λ n. first_bad n after) (omega arith)
first_bad-append number (Skipped ∷ before) after =
    first_bad-append (number + 1) before after
    ∙ ap (λ n. option_or (first_bad (number + 1) before) (first_bad n after)) (omega arith)
first_bad-append number (Says thing ∷ before) after =
    first_bad-append (number + 1) before after
    ∙ ap (λ n. option_or (first_bad (number + 1) before) (first_bad n after)) (omega arith)
first_bad-append number (Bad ∷ before) after = refl

-- one meaning says one thing at most
pub said_by_one : {T : Type 0} (meaning : Meaning T) → length (said (meaning ∷ [])) ≤ 1
said_by_one Skipped = omega arith
said_by_one (Says thing) = omega arith
said_by_one Bad = omega arith

-- no more is said than there are lines
pub few_said : {T : Type 0} (meanings : List (Meaning T)) → length (said meanings) ≤ length meanings
few_said [] = omega arith
few_said (Skipped ∷ meanings) = omega (arith, few_said meanings)
few_said (Says thing ∷ meanings) = omega (arith, few_said meanings)
few_said (Bad ∷ meanings) = omega (arith, few_said meanings)

-- one meaning says that its line is bad, or not
pub first_bad_of_one : {T : Type 0} (number : ℕ) (meaning : Meaning T) → first_bad number (meaning ∷ []) ≡ then_some (is_bad meaning) number
first_bad_of_one number Skipped = refl
first_bad_of_one number (Says thing) = refl
first_bad_of_one number Bad = refl

-- a good line is passed
pub first_bad-good : {T : Type 0} (number : ℕ) (meaning : Meaning T) (others : List (Meaning T)) → is_bad meaning ≡ false
    → first_bad number (meaning ∷ others) ≡ first_bad (number + 1) others
first_bad-good number Skipped others good = refl
first_bad-good number (Says thing) others good = refl
first_bad-good number Bad others good = absurd (cc)

-- and a bad one is the first
pub first_bad-bad : {T : Type 0} (number : ℕ) (meaning : Meaning T) (others : List (Meaning T)) → is_bad meaning ≡ true
    → first_bad number (meaning ∷ others) ≡ Some number
first_bad-bad number Skipped others bad = absurd (cc)
first_bad-bad number (Says thing) others bad = absurd (cc)
first_bad-bad number Bad others bad = refl
