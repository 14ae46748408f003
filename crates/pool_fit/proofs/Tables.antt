-- Tables that are one row longer.
use Rattle.std.proofs.Common.{◌≡◌, ℕ, ◌+◌, ◌*◌, ◌^◌, ◌<◌, suc, List, [], ◌∷◌, ◌++◌, length, map, take, get_or, Some, sym, ap, ◌∙◌}
use Rattle.std.proofs.Common.{subst, inl, inr, ◌⊎◌, arith, length-append}
use Rattle.std.specs.List.{range_with_len, slice_get}
use Rattle.std.proofs.lemmas.List.{take_more}
use Rattle.std.proofs.lemmas.List.FromFn.{map-range_with_len_more}
use Rattle.std.proofs.Math.Nat.{pow-suc}
use Rattle.pool_model.proofs.Places.{slice_get-push_cases}
use Rattle.pool_fit.specs.declared.moves.Move.{Move}
use Rattle.pool_fit.specs.declared.classes.SizeClass.{SizeClass}
use Rattle.pool_fit.specs.Classes.{class_between, class_of, least_bytes}
use Rattle.pool_fit.specs.SizeRows.{AreRowsFor}

suc_of : (n : ℕ) → n + 1 ≡ suc n
suc_of n = omega arith

-- the bounds of the next class
pub least_more : (exponent most : ℕ) → most ≡ 2 ^ exponent → most + 1 ≡ least_bytes (exponent + 1)
least_more exponent most is = ap (λ n. n + 1) is ∙ sym (ap least_bytes (suc_of exponent))

-- and of its power
pub most_more : (exponent most : ℕ) → most ≡ 2 ^ exponent → most * 2 ≡ 2 ^ (exponent + 1)
most_more exponent most is = ap (λ n. n * 2) is ∙ sym (ap (λ n. 2 ^ n) (suc_of exponent) ∙ pow-suc 2 exponent)

-- one class more
pub class_more : (traces : List (List Move)) (exponent least most : ℕ) (classes : List SizeClass)
    → classes ≡ map (class_of traces) (range_with_len 0 exponent) → least ≡ least_bytes exponent → most ≡ 2 ^ exponent
    → classes ++ class_between traces exponent least most ∷ [] ≡ map (class_of traces) (range_with_len 0 (exponent + 1))
class_more traces exponent least most classes so_far low high =
    ap (λ (xs : List SizeClass). xs ++ class_between traces exponent least most ∷ []) so_far
    ∙ ap (λ n. map (class_of traces) (range_with_len 0 exponent) ++ class_between traces exponent n most ∷ []) low
    ∙ ap (λ n. map (class_of traces) (range_with_len 0 exponent) ++ class_between traces exponent (least_bytes exponent) n ∷ []) high
    ∙ sym (map-range_with_len_more (class_of traces) 0 exponent exponent (omega arith))

-- one row more
pub rows_more : {A B : Type 0} (Is : A → B → Type 0) (keys : List A) (k : ℕ) (key : A) (rows : List B) (row : B)
    → k < length keys → key ≡ get_or keys k key → AreRowsFor Is (take k keys) rows → Is key row
    → AreRowsFor Is (take (k + 1) keys) (rows ++ row ∷ [])
rows_more {A} {B} Is keys k key rows row low is so_far last =
    subst (λ (front : List A). AreRowsFor Is front (rows ++ row ∷ []))
    (ap (λ (next : A). take k keys ++ next ∷ []) is ∙ sym (take_more keys k key low)) record {
      one_each = omega (arith, so_far.one_each, length-append rows (row ∷ []), length-append (take k keys) (key ∷ []));
      each = λ n other found at also. pick n other found (slice_get-push_cases (take k keys) key other n at)
          (slice_get-push_cases rows row found n also);
    }
  where
    pick : (n : ℕ) (other : A) (found : B)
        → ((n < length (take k keys)) × (slice_get (take k keys) n ≡ Some other)) ⊎ ((n ≡ length (take k keys)) × (key ≡ other))
        → ((n < length rows) × (slice_get rows n ≡ Some found)) ⊎ ((n ≡ length rows) × (row ≡ found)) → Is other found
    pick n other found (inl at) (inl also) = so_far.each n other found at.1 also.1
    pick n other found (inl at) (inr also) = absurd (omega (arith, so_far.one_each, at.0, also.0))
    pick n other found (inr at) (inl also) = absurd (omega (arith, so_far.one_each, at.0, also.0))
    pick n other found (inr at) (inr also) =
        subst (λ (one : A). Is one found) at.1 (subst (λ (one : B). Is key one) also.1 last)
