-- Products with one batch or one call more or less.
use Rattle.std.proofs.Common.{◌≡◌, ℕ, ◌+◌, ◌-◌, ◌*◌, ◌<◌, ◌≤◌, sym, ◌∙◌, ap, inl, inr, arith}
use Rattle.std.specs.Int.{div_ceil}
use Rattle.std.proofs.Math.Nat.{le-div_iff_mul-le, mul_comm}
use Rattle.std.proofs.lemmas.Bool.{cases_eq, cases_lt}

-- a number twice is its sum with itself
pub times_two : (l : ℕ) → l * 2 ≡ l + l
times_two l = omega arith

-- a number three times is the sum of three of it
pub times_three : (l : ℕ) → l * 3 ≡ l + l + l
times_three l = omega arith

-- once more is one number more
pub times_more : (l n : ℕ) → l * (n + 1) ≡ l * n + l
times_more l n = omega arith

-- once less and the number are the product
pub times_less : (l n : ℕ) → 0 < n → l * (n - 1) + l ≡ l * n
times_less l n some = sym (times_more l (n - 1)) ∙ ap (λ k. l * k) (omega arith)

-- a product rises with its factor
pub times_le : (l m n : ℕ) → m ≤ n → l * m ≤ l * n
times_le l m n le = grind arith

-- the lower product has the lower factor
pub less_of_times : (l m n : ℕ) → l * m < l * n → m < n
less_of_times l m n lt = elim (cases_lt m n) [ inl less ↦ less | inr more ↦ absurd (omega (arith, times_le l n m more)) ]

-- a quantum has one step at least
pub quantum_some : (length bound quantum : ℕ) → 1 ≤ bound → bound ≤ quantum * length → 0 < quantum
quantum_some length bound quantum some soon = elim (cases_eq quantum 0) [
  | inl none ↦ absurd (omega (arith, ap (λ q. q * length) none))
  | inr more ↦ omega arith
]

-- so many whole quanta are no more than all steps, rounded up
pub whole_rounded : (done quantum age : ℕ) → 0 < quantum → quantum * age ≤ done → age ≤ div_ceil done quantum
whole_rounded done quantum age some le =
    let whole = (le-div_iff_mul-le {x = age} {y = done} some).1 (omega (arith, mul_comm age quantum)) in
    omega arith
