-- What stands at a place of a list that grew by one, or that was cut short.
use Rattle.std.proofs.Common.{◌≡◌, ℕ, ◌<◌, ◌⊎◌, zero, suc, List, [], ◌∷◌, ◌++◌, length, take}
use Rattle.std.proofs.Common.{refl, sym, ap, ◌∙◌, inl, inr, arith, length-append, Some}
use Rattle.std.specs.Prelude.{slice_get}
use Rattle.std.proofs.lemmas.Bool.{cases_lt}
use Rattle.std.proofs.lemmas.Option.{same_Some, slice_get_within}

-- more items behind a list leave its own where they are
pub slice_get-append : {X : Type 0} (xs ys : List X) (i : ℕ) → i < length xs → slice_get (xs ++ ys) i ≡ slice_get xs i
slice_get-append [] ys i lt = absurd (omega arith)
slice_get-append (x ∷ xs) ys zero lt = refl
slice_get-append (x ∷ xs) ys (suc i) lt = slice_get-append xs ys i (omega arith)

-- the one item behind a list stands at the list's length
pub slice_get-push : {X : Type 0} (xs : List X) (y : X) → slice_get (xs ++ y ∷ []) (length xs) ≡ Some y
slice_get-push [] y = refl
slice_get-push (x ∷ xs) y = slice_get-push xs y

-- an item of a list with one more is one of the list, or the last
pub slice_get-push_cases : {X : Type 0} (xs : List X) (x y : X) (i : ℕ) → slice_get (xs ++ x ∷ []) i ≡ Some y
    → ((i < length xs) × (slice_get xs i ≡ Some y)) ⊎ ((i ≡ length xs) × (x ≡ y))
slice_get-push_cases xs x y i at = elim (cases_lt i (length xs)) [
  | inl lt ↦ inl (lt, sym (slice_get-append xs (x ∷ []) i lt) ∙ at)
  | inr ge ↦
      let within = slice_get_within (xs ++ x ∷ []) i y at in
      let end : i ≡ length xs = omega (arith, within, length-append xs (x ∷ [])) in
      inr (end, same_Some x y (sym (slice_get-push xs x) ∙ ap (slice_get (xs ++ x ∷ [])) (sym end) ∙ at))
]

-- a list cut short has the same items below the cut
pub slice_get-take : {X : Type 0} (xs : List X) (n i : ℕ) → i < n → slice_get (take n xs) i ≡ slice_get xs i
slice_get-take xs zero i lt = absurd (omega arith)
slice_get-take [] (suc n) i lt = refl
slice_get-take (x ∷ xs) (suc n) zero lt = refl
slice_get-take (x ∷ xs) (suc n) (suc i) lt = slice_get-take xs n i (omega arith)

-- a list has an item at each place of another that is as long
pub slice_get_as_long : {X Y : Type 0} (xs : List X) (ys : List Y) (i : ℕ) (y : Y) → length ys ≡ length xs → slice_get ys i ≡ Some y
    → (x : X) × (slice_get xs i ≡ Some x)
slice_get_as_long xs [] zero y same at = cc
slice_get_as_long xs [] (suc i) y same at = cc
slice_get_as_long [] (z ∷ ys) i y same at = absurd (omega (arith, same))
slice_get_as_long (x ∷ xs) (z ∷ ys) zero y same at = (x, refl)
slice_get_as_long (x ∷ xs) (z ∷ ys) (suc i) y same at = slice_get_as_long xs ys i y (omega (arith, same)) at
