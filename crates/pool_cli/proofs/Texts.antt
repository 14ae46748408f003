-- Texts that are written one after the other, one for each item of a list.
use Rattle.std.proofs.Common.{◌≡◌, ℕ, ◌+◌, ◌<◌, List, [], ◌∷◌, ◌++◌, length, take, drop, get_or, sym, ap, ◌∙◌, subst, arith, append_assoc, append-nil, Ok, Err}
use Rattle.std.proofs.lemmas.List.{take_more, take-append-drop, length-take-le}
use Rattle.pool_io.specs.declared.sink.Sink.{Ghosts}
use Rattle.pool_io.specs.Writes.{Writes}
use Rattle.pool_io.proofs.Writing.{writes_both, writes_part}

-- the text of a list from a number on: of no items it is empty, else the first one's with the number, and then that of the others from the
-- next number on
pub record IsOneByOne {X : Type 0} (text_at : ℕ → X → List ℕ) (text_from : ℕ → List X → List ℕ) : Type 0 where
  pub none : (number : ℕ) → text_from number [] ≡ []
  pub next : (number : ℕ) (x : X) (xs : List X) → text_from number (x ∷ xs) ≡ text_at number x ++ text_from (number + 1) xs

module _ {X : Type 0} (text_at : ℕ → X → List ℕ) (text_from : ℕ → List X → List ℕ) (is : IsOneByOne text_at text_from) where
  text_from-append : (number : ℕ) (first second : List X)
      → text_from number (first ++ second) ≡ text_from number first ++ text_from (number + length first) second
  text_from-append number [] second =
      ap (λ n. text_from n second) (let plus-zero : number ≡ number + 0 = omega arith in plus-zero)
      ∙ ap (λ text. text ++ text_from (number + 0) second) (sym (is.none number))
  text_from-append number (x ∷ first) second =
      is.next number x (first ++ second)
      ∙ ap (λ text. text_at number x ++ text) (text_from-append (number + 1) first second)
      ∙ sym (append_assoc (text_at number x) (text_from (number + 1) first) (text_from (number + 1 + length first) second))
      ∙ ap (λ n. (text_at number x ++ text_from (number + 1) first) ++ text_from n second)
      (let same : number + 1 + length first ≡ number + length (x ∷ first) = omega arith in same)
      ∙ ap (λ text. text ++ text_from (number + length (x ∷ first)) second) (sym (is.next number x first))

  text_of_one : (number : ℕ) (x : X) → text_from number (x ∷ []) ≡ text_at number x
  text_of_one number x = is.next number x [] ∙ ap (λ text. text_at number x ++ text) (is.none (number + 1)) ∙ append-nil (text_at number x)

  next_text : (xs : List X) (i : ℕ) (d : X) → i < length xs
      → text_from 1 (take (i + 1) xs) ≡ text_from 1 (take i xs) ++ text_at (i + 1) (get_or xs i d)
  next_text xs i d lt =
      ap (text_from 1) (take_more xs i d lt) ∙ text_from-append 1 (take i xs) (get_or xs i d ∷ [])
      ∙ ap (λ text. text_from 1 (take i xs) ++ text) (text_of_one (1 + length (take i xs)) (get_or xs i d))
      ∙ ap (λ n. text_from 1 (take i xs) ++ text_at n (get_or xs i d)) (omega (arith, length-take-le i xs (omega arith)))

  module _ {K E : Type 0} (sink : Ghosts K) (before between after : K) (xs : List X) (i : ℕ) (d : X) where
    -- the texts up to the next one
    pub texts_more : i < length xs → Writes {T = Unit {0}} {E = E} sink (text_from 1 (take i xs)) before between (Ok tt)
        → Writes {T = Unit {0}} {E = E} sink (text_at (i + 1) (get_or xs i d)) between after (Ok tt)
        → Writes {T = Unit {0}} {E = E} sink (text_from 1 (take (i + 1) xs)) before after (Ok tt)
    texts_more lt whole next =
        let Text : List ℕ → Type 0 = λ text. Writes {T = Unit {0}} {E = E} sink text before after (Ok tt) in
        subst Text (sym (next_text xs i d lt)) (writes_both sink _ _ before between after tt (Ok tt) whole next)

    -- texts of which the next one was cut short
    pub texts_part : (e e' : E) → i < length xs → Writes {T = Unit {0}} {E = E} sink (text_from 1 (take i xs)) before between (Ok tt)
        → Writes {T = Unit {0}} sink (text_at (i + 1) (get_or xs i d)) between after (Err e)
        → Writes {T = Unit {0}} sink (text_from 1 xs) before after (Err e')
    texts_part e e' lt whole next =
        let Text : List ℕ → Type 0 = λ text. Writes {T = Unit {0}} sink text before after (Err e) in
        let Texts : List ℕ → Type 0 = λ text. Writes {T = Unit {0}} sink text before after (Err e') in
        let all : text_from 1 xs ≡ text_from 1 (take (i + 1) xs) ++ text_from (1 + length (take (i + 1) xs)) (drop (i + 1) xs)
        = ap (text_from 1) (sym (take-append-drop (i + 1) xs)) ∙ text_from-append 1 (take (i + 1) xs) (drop (i + 1) xs) in
        subst Texts (sym all) (writes_part sink _ _ before after e e'
        (subst Text (sym (next_text xs i d lt)) (writes_both sink _ _ before between after tt (Err e) whole next)))
