-- Lists whose elements two functions answer alike, and lists with one more element.
use Rattle.std.proofs.Common.{◌≡◌, ℕ, ◌+◌, ◌<◌, Bool, cond, List, [], ◌∷◌, ◌++◌, map, refl, ap, ◌∙◌, arith}
use Rattle.std.specs.List.{fold, flat_map, count_by, AllByRecursion, range_with_len}
use Rattle.std.proofs.lemmas.List.Sums.{sum_by-append}
use Rattle.std.proofs.lemmas.List.FromFn.{fill_by_all, get_or-map-range_with_len, length-map-range_with_len}

-- 1 for a truth, else 0
abbrev pub one_if : Bool → ℕ
one_if t = cond t 1 0

-- two functions that agree on the items of a list fold it alike
pub fold_same : {A B : Type 0} (f g : B → A → B) (a : B) (xs : List A) → AllByRecursion (λ x. (b : B) → f b x ≡ g b x) xs
    → fold f a xs ≡ fold g a xs
fold_same f g a [] same = refl
fold_same f g a (x ∷ xs) same = ap (λ b. fold f b xs) (same.0 a) ∙ fold_same f g (g a x) xs same.1

each_sum : {A : Type 0} (p q : A → Bool) (xs : List A) → AllByRecursion (λ x. p x ≡ q x) xs
    → AllByRecursion (λ x. (b : ℕ) → b + cond (p x) 1 0 ≡ b + cond (q x) 1 0) xs
each_sum p q [] same = same
each_sum p q (x ∷ xs) same = (λ b. ap (λ t. b + cond t 1 0) same.0, each_sum p q xs same.1)

-- two tests that agree on the items count as many
pub count_by_same : {A : Type 0} (p q : A → Bool) (xs : List A) → AllByRecursion (λ x. p x ≡ q x) xs → count_by p xs ≡ count_by q xs
count_by_same p q xs same = fold_same (λ a x. a + cond (p x) 1 0) (λ a x. a + cond (q x) 1 0) 0 xs (each_sum p q xs same)

-- two functions that agree on the items map them alike
pub flat_map_same : {A B : Type 0} (f g : A → List B) (xs : List A) → AllByRecursion (λ x. f x ≡ g x) xs → flat_map f xs ≡ flat_map g xs
flat_map_same f g [] same = refl
flat_map_same f g (x ∷ xs) same = let rest = flat_map_same f g xs same.1 in let first = same.0 in cc

-- one item more counts one more, where it passes the test
pub count_by_more : {A : Type 0} (p : A → Bool) (xs : List A) (x : A) → count_by p (xs ++ x ∷ []) ≡ count_by p xs + cond (p x) 1 0
count_by_more p xs x = sum_by-append (λ y. cond (p y) 1 0) xs (x ∷ []) ∙ ap (λ n. count_by p xs + n) (omega arith)

-- two functions that agree below n map the numbers below n alike
pub map_range_same : (f g : ℕ → ℕ) (n : ℕ) → ((k : ℕ) → k < n → f k ≡ g k) → map f (range_with_len 0 n) ≡ map g (range_with_len 0 n)
map_range_same f g n same =
    fill_by_all g (map f (range_with_len 0 n)) n 0 (length-map-range_with_len f 0 n)
    (λ k below. get_or-map-range_with_len f 0 n k k 0 below (omega arith) ∙ same k below)
