-- The greatest of some numbers, and a list that a function makes of another.
use Rattle.std.proofs.Common.{◌≡◌, ℕ, ◌<◌, ◌≤◌, zero, suc, max, List, [], ◌∷◌, length, map, get_or, refl, arith, Some}
use Rattle.std.specs.Prelude.{fold, slice_get}
use Rattle.std.specs.List.{range_with_len}
use Rattle.std.proofs.Math.Nat.{le-max_left, le-max_right}
use Rattle.std.proofs.lemmas.List.FromFn.{get_or-map-range_with_len, length-map-range_with_len}

-- the greatest is at least each of them
start-le-fold_max : (a : ℕ) (xs : List ℕ) → a ≤ fold max a xs
start-le-fold_max a [] = omega arith
start-le-fold_max a (x ∷ xs) = omega (arith, start-le-fold_max (max a x) xs, le-max_left a x)

each-le-fold_max : (a : ℕ) (xs : List ℕ) (k d : ℕ) → k < length xs → get_or xs k d ≤ fold max a xs
each-le-fold_max a [] k d low = absurd (omega (arith, low))
each-le-fold_max a (x ∷ xs) zero d low = omega (arith, start-le-fold_max (max a x) xs, le-max_right a x)
each-le-fold_max a (x ∷ xs) (suc k) d low = each-le-fold_max (max a x) xs k d (omega (arith, low))

-- a number of each of the first so many is at most the greatest of them
pub at-le-greatest : (at : ℕ → ℕ) (n k : ℕ) → k < n → at k ≤ fold max 0 (map at (range_with_len 0 n))
at-le-greatest at n k low =
    omega (
      arith,
      low,
      get_or-map-range_with_len at 0 n k k 0 low (omega arith),
      each-le-fold_max 0 (map at (range_with_len 0 n)) k 0 (omega (arith, low, length-map-range_with_len at 0 n)),
    )

-- a list whose items are those of another by a function
pub same_as_mapped : {S R : Type 0} (f : S → R) (scripts : List S) (results : List R) → length results ≡ length scripts
    → ((k : ℕ) (script : S) (result : R) → slice_get scripts k ≡ Some script → slice_get results k ≡ Some result → result ≡ f script)
    → results ≡ map f scripts
same_as_mapped f [] [] long each = refl
same_as_mapped f [] (result ∷ results) long each = absurd (omega (arith, long))
same_as_mapped f (script ∷ scripts) [] long each = absurd (omega (arith, long))
same_as_mapped f (script ∷ scripts) (result ∷ results) long each =
    let first : result ≡ f script = each 0 script result refl refl in
    let rest : results ≡ map f scripts
    = same_as_mapped f scripts results (omega (arith, long)) (λ k other found at also. each (suc k) other found at also) in
    cc
