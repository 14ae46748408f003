-- What stands in a list of numbers after one is put before it, behind it, or left out.
use Rattle.std.proofs.Common.{◌≡◌, ℕ, ◌<◌, ◌≤◌, ◌==◌, Bool, true, false, not, cond, refl, inl, inr}
use Rattle.std.proofs.Common.{arith, zero, suc, ◌⊎◌, List, [], ◌∷◌, length, get_or, filter}
use Rattle.std.specs.List.{Contains}
use Rattle.std.proofs.lemmas.Bool.{cases_eq}
use Rattle.std.proofs.lemmas.Bool.Decides.{nat_tests}
use Rattle.std.proofs.lemmas.List.Sums.{length-filter, count_by-le-length}

-- a list contains its first number
pub contains_head : (x : ℕ) (xs : List ℕ) → Contains (x ∷ xs) x
contains_head x xs = (0, omega arith, refl)

-- what a list contains, it contains with one number more before it
pub contains_tail : (x y : ℕ) (xs : List ℕ) → Contains xs x → Contains (y ∷ xs) x
contains_tail x y xs c = (suc c.0, omega (arith, c.1), c.2)

-- what a list contains is its first number, or stands behind that
pub contains_cons_cases : (x y : ℕ) (xs : List ℕ) → Contains (y ∷ xs) x → (y ≡ x) ⊎ Contains xs x
contains_cons_cases x y xs c = go c.0 c.1 c.2
  where
    go : (k : ℕ) → k < length (y ∷ xs) → get_or (y ∷ xs) k x ≡ x → (y ≡ x) ⊎ Contains xs x
    go zero lt at = inl at
    go (suc k) lt at = inr (k, omega arith, at)

-- the empty list contains nothing
pub contains_nil : (x : ℕ) → Contains [] x → ⊥
contains_nil x c = omega (arith, c.1)

-- what is left where a number is left out
pub contains_without : (b x : ℕ) (xs : List ℕ) → Contains (filter (λ other. not (other == b)) xs) x → Contains xs x × ¬ (x ≡ b)
contains_without b x [] c = absurd (contains_nil x c)
contains_without b x (y ∷ xs) c = elim (cases_eq y b) [
  | inl e ↦
      let left : Contains xs x × ¬ (x ≡ b) = contains_without b x xs (dropped (y == b) (grind (arith, nat_tests)) c) in
      (contains_tail x y xs left.0, left.1)
  | inr ne ↦ elim (contains_cons_cases x y _ (kept (y == b) (grind (arith, nat_tests)) c)) [
    | inl e ↦ (subst_head x y xs e, λ k. ne (omega (arith, e, k)))
    | inr d ↦ let left : Contains xs x × ¬ (x ≡ b) = contains_without b x xs d in (contains_tail x y xs left.0, left.1)
  ]
]
  where
    subst_head : (x y : ℕ) (xs : List ℕ) → y ≡ x → Contains (y ∷ xs) x
    subst_head x y xs e = (0, omega arith, e)

    dropped : (t : Bool) → t ≡ true
        → Contains (cond (not t) (y ∷ filter (λ other. not (other == b)) xs) (filter (λ other. not (other == b)) xs)) x
        → Contains (filter (λ other. not (other == b)) xs) x
    dropped true e c = c
    dropped false e c = cc

    kept : (t : Bool) → t ≡ false
        → Contains (cond (not t) (y ∷ filter (λ other. not (other == b)) xs) (filter (λ other. not (other == b)) xs)) x
        → Contains (y ∷ filter (λ other. not (other == b)) xs) x
    kept true e c = cc
    kept false e c = c

-- a number stays in a list where another one is left out
pub without_contains : (b x : ℕ) (xs : List ℕ) → Contains xs x → ¬ (x ≡ b) → Contains (filter (λ other. not (other == b)) xs) x
without_contains b x [] c ne = absurd (contains_nil x c)
without_contains b x (y ∷ xs) c ne = elim (contains_cons_cases x y xs c) [
  | inl e ↦ here (y == b) (let apart : ¬ (y ≡ b) = (λ k. ne (omega (arith, e, k))) in grind (arith, nat_tests)) e
  | inr d ↦ there (y == b) (without_contains b x xs d ne)
]
  where
    here : (t : Bool) → t ≡ false → y ≡ x
        → Contains (cond (not t) (y ∷ filter (λ other. not (other == b)) xs) (filter (λ other. not (other == b)) xs)) x
    here true f e = cc
    here false f e = (0, omega arith, e)

    there : (t : Bool) → Contains (filter (λ other. not (other == b)) xs) x
        → Contains (cond (not t) (y ∷ filter (λ other. not (other == b)) xs) (filter (λ other. not (other == b)) xs)) x
    there true c = c
    there false c = contains_tail x y _ c

-- leaving out a number that a list contains makes it shorter
pub without_shorter : (b : ℕ) (xs : List ℕ) → Contains xs b → length (filter (λ other. not (other == b)) xs) < length xs
without_shorter b [] c = absurd (contains_nil b c)
without_shorter b (y ∷ xs) c = elim (cases_eq y b) [
  | inl e ↦ dropped (y == b) (grind (arith, nat_tests))
  | inr ne ↦ elim (contains_cons_cases b y xs c) [
    | inl e ↦ absurd (ne e)
    | inr d ↦ kept (y == b) (without_shorter b xs d)
  ]
]
  where
    shorter : length (filter (λ other. not (other == b)) xs) ≤ length xs
    shorter = omega (arith, length-filter (λ other. not (other == b)) xs, count_by-le-length (λ other. not (other == b)) xs)

    dropped : (t : Bool) → t ≡ true
        → length (cond (not t) (y ∷ filter (λ other. not (other == b)) xs) (filter (λ other. not (other == b)) xs)) < length (y ∷ xs)
    dropped true e = omega (arith, shorter)
    dropped false e = cc

    kept : (t : Bool) → length (filter (λ other. not (other == b)) xs) < length xs
        → length (cond (not t) (y ∷ filter (λ other. not (other == b)) xs) (filter (λ other. not (other == b)) xs)) < length (y ∷ xs)
    kept true lt = omega (arith, lt)
    kept false lt = omega (arith, lt)
