-- weights of lists and of numbers below a bound
use Rattle.std.proofs.Common.{◌∙◌, ◌≡◌, ◌≢◌, ℕ, suc, ◌+◌, ◌*◌, ◌<◌, ◌≤◌, ◌==◌, Bool, true, false, not, refl, ap, inl, inr, List, [], ◌∷◌}
use Rattle.std.proofs.Common.{length, arith}
use Rattle.std.specs.Prelude.{Contains, if◌then◌else◌}
use Rattle.std.proofs.lemmas.Bool.{cases_eq}
use Rattle.std.proofs.lemmas.Bool.Decides.{nat_tests}
use Rattle.std.proofs.lemmas.List.Sums.{sum_by-cons, get_or-le-sum_by}
use Rattle.process_sums.specs.Sums.{total}
use Rattle.process_sums.proofs.Sums.{total_none, total_of_one}
use Rattle.batch_invariant.specs.Batches.{weight}
use Rattle.chain_invariant.specs.Chains.{without, is_head}

-- a head or block counts for itself alone
pub counts_itself : (this : ℕ) → is_head this this ≡ 1
counts_itself this = grind (arith, nat_tests)

-- a head that counts is the one asked for
pub counts_equal : (this head : ℕ) → 1 ≤ is_head this head → head ≡ this
counts_equal this head h = grind (arith, nat_tests)

-- no other head counts
pub counts_no_other : (this head : ℕ) → head ≢ this → is_head this head ≡ 0
counts_no_other this head h = grind (arith, nat_tests)

-- a list that has a block weighs as much as it at least
pub has_weighs : (xs : List ℕ) (b : ℕ) → Contains xs b → 1 ≤ weight (is_head b) xs
has_weighs xs b has =
    let part = get_or-le-sum_by (is_head b) xs has.0 b has.1 in
    let here = ap (is_head b) has.2 in
    omega (arith, part, here, counts_itself b)

-- what weighs nothing in a list is not contained
pub weighs_none : (xs : List ℕ) (b : ℕ) → weight (is_head b) xs ≡ 0 → ¬ Contains xs b
weighs_none xs b none has = omega (arith, has_weighs xs b has)

-- the weight of a member is part of the whole
pub weight_part : (f : ℕ → ℕ) (b : ℕ) (xs : List ℕ) → 1 ≤ weight (is_head b) xs → f b ≤ weight f xs
weight_part f b [] some = absurd (omega arith)
weight_part f b (x ∷ xs) some = elim (cases_eq x b) [
  | inl e ↦ rw (← e) (omega (arith, sum_by-cons f x xs))
  | inr ne ↦ omega (
    arith,
    sum_by-cons f x xs,
    sum_by-cons (is_head b) x xs,
    counts_no_other b x ne,
    weight_part f b xs (omega (arith, sum_by-cons (is_head b) x xs, counts_no_other b x ne)),
  )
]

-- a number that is at most another one at each element
pub weight_le : (f g : ℕ → ℕ) (xs : List ℕ) → ((b : ℕ) → 1 ≤ weight (is_head b) xs → f b ≤ g b) → weight f xs ≤ weight g xs
weight_le f g [] le = omega arith
weight_le f g (x ∷ xs) le =
    let here = le x (omega (arith, sum_by-cons (is_head x) x xs, counts_itself x)) in
    let rest = weight_le f g xs (λ b some. le b (omega (arith, sum_by-cons (is_head b) x xs))) in
    omega (arith, here, rest, sum_by-cons f x xs, sum_by-cons g x xs)

-- so many of one number
pub weight_each : (n : ℕ) (xs : List ℕ) → weight (λ b. n) xs ≡ n * length xs
weight_each n [] = omega arith
weight_each n (x ∷ xs) = omega (arith, sum_by-cons (λ b. n) x xs, weight_each n xs, times_more n (length xs))
  where
    times_more : (n k : ℕ) → n * suc k ≡ n * k + n
    times_more n k = omega arith

-- a list without a block weighs as much less
pick_weighs : (f : ℕ → ℕ) (b x : ℕ) (rest less : List ℕ) (t : Bool) → (x == b) ≡ t
    → weight f less + weight (is_head b) rest * f b ≡ weight f rest
    → weight f (if not t then x ∷ less else less) + (is_head b x + weight (is_head b) rest) * f b ≡ f x + weight f rest
pick_weighs f b x rest less true e h =
    let same : x ≡ b = grind (arith, nat_tests) in
    let one : is_head b x ≡ 1 = rw same (counts_itself b) in
    rw one (omega (arith, h, ap f same, once_more (weight (is_head b) rest) (f b)))
  where
    once_more : (t x : ℕ) → (1 + t) * x ≡ x + t * x
    once_more t x = omega arith
pick_weighs f b x rest less false e h =
    let none : is_head b x ≡ 0 = counts_no_other b x (λ same. grind (arith, nat_tests)) in
    rw none (omega (arith, h, sum_by-cons f x less, no_more (weight (is_head b) rest) (f b)))
  where
    no_more : (t x : ℕ) → (0 + t) * x ≡ t * x
    no_more t x = omega arith

-- a list weighs what it does without a block, and the weight of that block as often as it stands there
pub weight_without : (f : ℕ → ℕ) (b : ℕ) (xs : List ℕ) → weight f (without b xs) + weight (is_head b) xs * f b ≡ weight f xs
weight_without f b [] = omega arith
weight_without f b (x ∷ xs) =
    rw (sum_by-cons (is_head b) x xs, sum_by-cons f x xs) (pick_weighs f b x xs (without b xs) (x == b) refl (weight_without f b xs))

-- among the numbers below a bound a block counts once where it is one of them
pub total_past : (count b : ℕ) → count ≤ b → total count (is_head b) ≡ 0
total_past count b le = total_none count (is_head b) (λ o lt. counts_no_other b o (λ e. omega arith))

-- among all numbers below a bound one counts once
pub total_one : (count b : ℕ) → b < count → total count (is_head b) ≡ 1
total_one count b lt = total_of_one count b (is_head b) lt (λ o lo ne. counts_no_other b o ne) ∙ counts_itself b
