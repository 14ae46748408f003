-- The numbers of a list that is one longer.
use Rattle.std.proofs.Common.{◌≡◌, ℕ, ◌+◌, ◌<◌, ◌≤◌, Bool, true, false, cond, max, List, [], ◌∷◌, ◌++◌, length, take, map, get_or, refl}
use Rattle.std.proofs.Common.{sym, ap, ◌∙◌, subst, arith}
use Rattle.std.proofs.Common.{length-append}
use Rattle.std.specs.List.{count_by, range_with_len}
use Rattle.std.proofs.lemmas.List.{take-append-le, take_all, take_more}
use Rattle.std.proofs.lemmas.List.Sums.{fold-append}
use Rattle.std.proofs.lemmas.List.FromFn.{map-range_with_len_more}
use Rattle.trace_player.proofs.Lists.{count_by_more, map_range_same}
use Rattle.trace_player.specs.Tally.{greatest}
use Rattle.pool_fit.specs.declared.tide.Tide.{Tide}
use Rattle.pool_fit.specs.Tides.{IsTideOf, after_one, most_there, no_tide, there}

-- the greatest of one value more
greatest_more : (f : ℕ → ℕ) (n : ℕ) → greatest (map f (range_with_len 0 (n + 1))) ≡ max (greatest (map f (range_with_len 0 n))) (f n)
greatest_more f n = ap greatest (map-range_with_len_more f 0 n n (omega arith)) ∙ fold-append max 0 (map f (range_with_len 0 n)) (f n ∷ [])

one-le : (b : Bool) → cond b 1 0 ≤ 1
one-le true = omega arith
one-le false = omega arith

module _ {A : Type 0} (comes goes : A → Bool) where
  -- the most that were there, with one thing more
  pub most_there_more : (xs : List A) (x : A)
      → most_there comes goes (xs ++ x ∷ []) ≡ max (most_there comes goes xs) (there comes goes (xs ++ x ∷ []))
  most_there_more xs x =
      let all = xs ++ x ∷ [] in
      let long : length all ≡ length xs + 1 = omega (arith, length-append xs (x ∷ [])) in
      let before : ℕ → ℕ = λ place. there comes goes (take place xs) in
      let later : ℕ → ℕ = λ place. there comes goes (take place all) in
      ap (λ n. greatest (map later (range_with_len 0 (n + 1)))) long
      ∙ greatest_more later (length xs + 1)
      ∙ ap (λ numbers. max (greatest numbers) (later (length xs + 1)))
      (map_range_same later before (length xs + 1) (λ k below. ap (there comes goes) (take-append-le k xs (x ∷ []) (omega arith))))
      ∙ ap (λ end. max (most_there comes goes xs) (there comes goes end)) (take_all (length xs + 1) all (omega arith))

  -- nothing was there before the first
  pub tide_none : IsTideOf comes goes [] no_tide
  tide_none = record { came = refl; gone = refl; peak = refl; few_came = omega arith; few_gone = omega arith }

  -- one thing more
  pub tide_more : (xs : List A) (x : A) (tide : Tide) → IsTideOf comes goes xs tide
      → IsTideOf comes goes (xs ++ x ∷ []) (after_one tide (comes x) (goes x))
  tide_more xs x tide is =
      let came : tide.came + cond (comes x) 1 0 ≡ count_by comes (xs ++ x ∷ []) = omega (arith, is.came, count_by_more comes xs x) in
      let gone : tide.gone + cond (goes x) 1 0 ≡ count_by goes (xs ++ x ∷ []) = omega (arith, is.gone, count_by_more goes xs x) in
      let long : length (xs ++ x ∷ []) ≡ length xs + 1 = omega (arith, length-append xs (x ∷ [])) in
      record {
        came = came;
        gone = gone;
        peak = omega (arith, is.peak, came, gone, most_there_more xs x);
        few_came = omega (arith, is.few_came, long, one-le (comes x));
        few_gone = omega (arith, is.few_gone, long, one-le (goes x));
      }

  -- one item more of a list
  pub tide_next : (xs : List A) (k : ℕ) (d : A) (tide : Tide) → k < length xs → IsTideOf comes goes (take k xs) tide
      → IsTideOf comes goes (take (k + 1) xs) (after_one tide (comes (get_or xs k d)) (goes (get_or xs k d)))
  tide_next xs k d tide low is =
      subst (λ (ys : List A). IsTideOf comes goes ys (after_one tide (comes (get_or xs k d)) (goes (get_or xs k d))))
      (sym (take_more xs k d low)) (tide_more (take k xs) (get_or xs k d) tide is)
