-- how often a block stands in a list
use Rattle.std.proofs.Common.{◌≡◌, ◌≢◌, ℕ, ◌+◌, ◌<◌, ◌==◌, Bool, true, false, not, cond, refl, sym, inl, inr, arith, List, [], ◌∷◌, length}
use Rattle.std.proofs.Common.{filter}
use Rattle.std.specs.List.{Contains}
use Rattle.std.proofs.lemmas.Bool.{cases_eq}
use Rattle.std.proofs.lemmas.List.Sums.{sum_by-cons}
use Rattle.std.proofs.lemmas.Bool.Decides.{nat_tests}
use Rattle.pool_model.proofs.Members.{contains_head, contains_tail, contains_cons_cases, contains_nil}
use Rattle.history_invariant.specs.Grips.{times}

-- one block more at the front
pub times_push : (b c : ℕ) (xs : List ℕ) → times b (c ∷ xs) ≡ cond (c == b) 1 0 + times b xs
times_push b c xs = sum_by-cons (λ other. cond (other == b) 1 0) c xs

times_nil : (b : ℕ) → times b [] ≡ 0
times_nil b = refl

-- without a block each other one stands as often
pub times_without : (b c : ℕ) (xs : List ℕ) → times c (filter (λ other. not (other == b)) xs) ≡ cond (c == b) 0 (times c xs)
times_without b c [] = grind (arith, nat_tests)
times_without b c (x ∷ xs) = elim (cases_eq x b) [
  | inl e ↦ same (x == b) (grind (arith, nat_tests)) (at_it x b c (times c xs) e) (times_without b c xs)
  | inr ne ↦ other (x == b) (grind (arith, nat_tests)) (off_it x b c (times c xs) ne) (times_without b c xs)
]
  where
    at_it : (x b c n : ℕ) → x ≡ b → cond (c == b) 0 (cond (x == c) 1 0 + n) ≡ cond (c == b) 0 n
    at_it x b c n e = grind (arith, nat_tests)

    off_it : (x b c n : ℕ) → x ≢ b → cond (c == b) 0 (cond (x == c) 1 0 + n) ≡ cond (x == c) 1 0 + cond (c == b) 0 n
    off_it x b c n ne = grind (arith, nat_tests)

    same : (t : Bool) → t ≡ true → cond (c == b) 0 (cond (x == c) 1 0 + times c xs) ≡ cond (c == b) 0 (times c xs)
        → times c (filter (λ other. not (other == b)) xs) ≡ cond (c == b) 0 (times c xs)
        → times c (cond (not t) (x ∷ filter (λ other. not (other == b)) xs) (filter (λ other. not (other == b)) xs))
        ≡ cond (c == b) 0 (times c (x ∷ xs))
    same true e k h = rw (times_push c x xs) (rw k h)
    same false e k h = cc

    other : (t : Bool) → t ≡ false → cond (c == b) 0 (cond (x == c) 1 0 + times c xs) ≡ cond (x == c) 1 0 + cond (c == b) 0 (times c xs)
        → times c (filter (λ other. not (other == b)) xs) ≡ cond (c == b) 0 (times c xs)
        → times c (cond (not t) (x ∷ filter (λ other. not (other == b)) xs) (filter (λ other. not (other == b)) xs))
        ≡ cond (c == b) 0 (times c (x ∷ xs))
    other true e k h = cc
    other false e k h = rw (times_push c x xs) (rw (times_push c x (filter (λ other. not (other == b)) xs)) (rw h (sym k)))

-- a list is as much shorter without a block as that stood in it
pub length_without : (b : ℕ) (xs : List ℕ) → length (filter (λ other. not (other == b)) xs) + times b xs ≡ length xs
length_without b [] = omega arith
length_without b (x ∷ xs) = rw (times_push b x xs) (step (x == b) (length_without b xs))
  where
    step : (t : Bool) → length (filter (λ other. not (other == b)) xs) + times b xs ≡ length xs
        → length (cond (not t) (x ∷ filter (λ other. not (other == b)) xs) (filter (λ other. not (other == b)) xs))
        + (cond t 1 0 + times b xs)
        ≡ length (x ∷ xs)
    step true h = omega arith
    step false h = omega arith

times_head : (b x n : ℕ) → x ≡ b → 0 < cond (x == b) 1 0 + n
times_head b x n e = grind (arith, nat_tests)

times_tail : (b x n : ℕ) → x ≢ b → 0 < cond (x == b) 1 0 + n → 0 < n
times_tail b x n ne some = grind (arith, nat_tests)

-- what a list contains stands in it at least once
pub times_contained : (b : ℕ) (xs : List ℕ) → Contains xs b → 0 < times b xs
times_contained b [] c = absurd (contains_nil b c)
times_contained b (x ∷ xs) c = rw (times_push b x xs) (elim (contains_cons_cases b x xs c) [
  | inl e ↦ times_head b x (times b xs) e
  | inr d ↦ (let more = times_contained b xs d in omega arith)
])

-- what stands at least once is contained
pub contained_times : (b : ℕ) (xs : List ℕ) → 0 < times b xs → Contains xs b
contained_times b [] some = absurd (omega (arith, times_nil b))
contained_times b (x ∷ xs) some = elim (cases_eq x b) [
  | inl e ↦ rw e (contains_head b xs)
  | inr ne ↦ contains_tail b x xs (contained_times b xs (times_tail b x (times b xs) ne (rw (times_push b x xs) at some)))
]

-- what is not contained stands in it no time
pub times_none : (b : ℕ) (xs : List ℕ) → ¬ Contains xs b → times b xs ≡ 0
times_none b xs out = elim (cases_eq (times b xs) 0) [
  | inl none ↦ none
  | inr more ↦ absurd (out (contained_times b xs (omega arith)))
]
