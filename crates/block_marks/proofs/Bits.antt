-- What a changed word makes of the marks.
use Rattle.std.proofs.Common.{◌≡◌, ◌≢◌, ℕ, ◌*◌, ◌/◌, ◌%◌, ◌^◌, ◌<◌, ◌≤◌, ◌↔◌, List, length, set, get_or, get_or-set_same, get_or-set_other}
use Rattle.std.proofs.Common.{eqb, eqb-true, eq-eqb, true, replicate, refl, sym, ap, ◌∙◌, subst, arith, inl, inr, w64}
use Rattle.std.specs.Prelude.{bit_and, bit_or}
use Rattle.std.specs.Int.{bit_at, bit_not}
use Rattle.std.proofs.lemmas.Bool.{cases_eq, cases_lt}
use Rattle.std.proofs.lemmas.Grind.{get_or_default_zero}
use Rattle.std.proofs.lemmas.List.{get_or-replicate, get_or_past, length-replicate}
use Rattle.std.proofs.lemmas.Nat.Bits.{bit_at-zero, shr_and_one, bit_at_set_same, bit_at_set_other, bit_at_clear_same, bit_at_clear_other}
use Rattle.block_marks.specs.Marked.{Marked, Has, HasBit}

-- the bit of a number among words
abbrev bit_of : List ℕ → ℕ → ℕ
bit_of words number = bit_at (get_or words (number / 64) 0) (number % 64)

module _ (words : List ℕ) (number word : ℕ) (inside : number / 64 < length words) where
  changed_word : (other : ℕ) → other / 64 ≡ number / 64 → get_or (set words (number / 64) word) (other / 64) 0 ≡ word
  changed_word other e = ap (λ (k : ℕ). get_or (set words (number / 64) word) k 0) e ∙ get_or-set_same words (number / 64) word 0 inside

  changed_bit : bit_of (set words (number / 64) word) number ≡ bit_at word (number % 64)
  changed_bit = ap (λ (w : ℕ). bit_at w (number % 64)) (changed_word number refl)

  -- where the word differs in that bit alone, all other numbers keep theirs
  other_bits : ((place : ℕ) → place < 64 → place ≢ number % 64 → bit_at word place ≡ bit_at (get_or words (number / 64) 0) place)
      → (other : ℕ) → other ≢ number → bit_of (set words (number / 64) word) other ≡ bit_of words other
  other_bits same other apart = elim (cases_eq (other / 64) (number / 64)) [
    | inl e ↦ ap (λ (w : ℕ). bit_at w (other % 64)) (changed_word other e)
        ∙ same (other % 64) (omega arith) (λ f. apart (omega (arith, e, f)))
        ∙ ap (λ (k : ℕ). bit_at (get_or words k 0) (other % 64)) (sym e)
    | inr ne ↦ ap (λ (w : ℕ). bit_at w (other % 64)) (get_or-set_other words (number / 64) (other / 64) word 0 ne)
  ]

-- the word of a number below the bound is there
word_inside : (bound number size : ℕ) → number < bound → bound ≤ 64 * size → number / 64 < size
word_inside bound number size less fits = omega (arith, less, fits)

-- all numbers but this one are marked as before
abbrev pub OthersStay : Marked → Marked → ℕ → Type 0
OthersStay old new number = (other : ℕ) → other ≢ number → Has new other ↔ Has old other

-- the number is marked, all others are as before
abbrev pub Sets : Marked → Marked → ℕ → Type 0
Sets old new number = Has new number × OthersStay old new number

-- the number isn't marked, all others are as before
abbrev pub Clears : Marked → Marked → ℕ → Type 0
Clears old new number = (Has new number → ⊥) × OthersStay old new number

module _ (bound : ℕ) (words : List ℕ) (now : Marked) (number word : ℕ) (is : record { bound = bound; words = words } ≡ now)
    (less : number < now.bound) (fits : bound ≤ 64 * length words) (met : word ≡ get_or words (number / 64) word) where
  below : number < bound
  below = subst (λ (marks : Marked). number < marks.bound) (sym is) less

  inside : number / 64 < length words
  inside = word_inside bound number (length words) below fits

  read : word ≡ get_or words (number / 64) 0
  read = met ∙ get_or_default_zero words (number / 64) word inside

  -- a word that differs from the one that was there in the number's bit alone
  module _ (changed : ℕ) (others : (place : ℕ) → place < 64 → place ≢ number % 64 → bit_at changed place ≡ bit_at word place) where
    abbrev marks : Marked
    marks = record { bound = bound; words = set words (number / 64) changed }

    as_before : (other : ℕ) → other ≢ number → bit_of marks.words other ≡ bit_of words other
    as_before = other_bits words number changed inside (λ place low apart. others place low apart ∙ ap (λ (w : ℕ). bit_at w place) read)

    -- the number is marked where its bit is set, all others are as before
    mark_one : (Has marks number ↔ bit_at changed (number % 64) ≡ 1) × OthersStay now marks number
    unfolding HasBit
    mark_one =
        let here = changed_bit words number changed inside in (
          (λ has. sym here ∙ has.1, λ is. (below, here ∙ is)),
          λ other apart. subst (λ (old : Marked). Has marks other ↔ Has old other) is (
            λ has. (has.0, sym (as_before other apart) ∙ has.1),
            λ has. (has.0, as_before other apart ∙ has.1),
          ),
        )

  abbrev with_bit : ℕ
  with_bit = bit_or word (1 * 2 ^ (number % 64) % 2 ^ 64)

  abbrev without_bit : ℕ
  without_bit = bit_and word (bit_not w64 (1 * 2 ^ (number % 64) % 2 ^ 64))

  -- setting its bit marks the number, and all others are as before
  pub set_one : Sets now (record { bound = bound; words = set words (number / 64) with_bit }) number
  set_one =
      let one = mark_one with_bit (λ place low apart. bit_at_set_other w64 word (number % 64) (omega arith) place apart) in
      (one.0.1 (bit_at_set_same w64 word (number % 64) (omega arith)), one.1)

  -- clearing its bit unmarks the number, and all others are as before
  pub clear_one : Clears now (record { bound = bound; words = set words (number / 64) without_bit }) number
  clear_one =
      let one = mark_one without_bit (λ place low apart. bit_at_clear_other w64 word (number % 64) (omega arith) place low apart) in
      let none = bit_at_clear_same w64 word (number % 64) (omega arith) in
      (λ has. cleared _ none (one.0.0 has), one.1)
    where
      cleared : (bit : ℕ) → bit ≡ 0 → bit ≡ 1 → ⊥
      cleared bit e f = omega (arith, e, f)

  -- the test of a bit tells whether its number is marked
  pub tests_one : (eqb (bit_and (word / 2 ^ (number % 64)) 1) 1 ≡ true) ↔ Has now number
  unfolding HasBit
  tests_one = subst (λ (marks : Marked). (eqb (bit_and (word / 2 ^ (number % 64)) 1) 1 ≡ true) ↔ Has marks number) is (
    λ e. (
      below,
      ap (λ (w : ℕ). bit_at w (number % 64)) (sym read) ∙ sym (shr_and_one word (number % 64))
          ∙ eqb-true (bit_and (word / 2 ^ (number % 64)) 1) 1 e,
    ),
    λ has. eq-eqb (bit_and (word / 2 ^ (number % 64)) 1) 1
        (shr_and_one word (number % 64) ∙ ap (λ (w : ℕ). bit_at w (number % 64)) read ∙ has.1),
  )

alike : (n k word : ℕ) → get_or (replicate n word) k word ≡ word
alike n k word = elim (cases_lt k n) [
  | inl less ↦ get_or-replicate n k word word less
  | inr most ↦ get_or_past (replicate n word) k word (omega (arith, most, length-replicate n word))
]

-- among words of 0 no number is marked
pub none_marked : (n bound : ℕ) (words : List ℕ) → words ≡ replicate n 0 → (number : ℕ)
    → Has (record { bound = bound; words = words }) number
    → ⊥
unfolding HasBit
none_marked n bound words is number has =
    let word : get_or words (number / 64) 0 ≡ 0 = ap (λ (ws : List ℕ). get_or ws (number / 64) 0) is ∙ alike n (number / 64) 0 in
    omega (arith, ap (λ (w : ℕ). bit_at w (number % 64)) word, bit_at-zero (number % 64), has.1)
