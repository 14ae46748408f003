-- how many transfers a process may begin
use Rattle.std.proofs.Common.{ℕ, ◌+◌, ◌-◌, ◌*◌, ◌/◌, ◌^◌, ◌<◌, ◌≤◌, inl, inr, arith}
use Rattle.std.proofs.Math.Nat.{mul-le-mul_left, mul-le-mul_right}
use Rattle.std.proofs.lemmas.Bool.{cases_lt}
use Rattle.word_layout.specs.Sizes.{Sizes, IsShape}
use Rattle.word_layout.specs.Packing.{tag_limit, HaveTags, most_age}

-- a quotient is rounded down
quotient_fits : (n k : ℕ) → 0 < k → k * (n / k) ≤ n
quotient_fits n k some = omega arith

-- the number above it is too much
above_quotient : (n k : ℕ) → 0 < k → n < k * (n / k + 1)
above_quotient n k some = omega arith

-- where each process begins its most transfers, all have tags
pub most_age_has_tags : (sizes : Sizes) → 1 ≤ sizes.processes → HaveTags sizes (most_age sizes)
unfolding most_age
most_age_has_tags sizes some = omega (arith, quotient_fits (tag_limit - 3) sizes.processes some)

-- and with more they don't
pub most_age_is_greatest : (sizes : Sizes) (n : ℕ) → 1 ≤ sizes.processes → HaveTags sizes n → n ≤ most_age sizes
unfolding most_age
most_age_is_greatest sizes n some fits =
    elim (cases_lt ((tag_limit - 3) / sizes.processes) n) [
      | inl above ↦
          omega (
            arith,
            above_quotient (tag_limit - 3) sizes.processes some,
            mul-le-mul_left {m = (tag_limit - 3) / sizes.processes + 1} {n = n} sizes.processes (omega (arith, above)),
          )
      | inr least ↦ least
    ]

-- no shape has fewer than 32 processes have
pub many_ages : (sizes : Sizes) → IsShape sizes → 2 ^ 35 - 1 ≤ most_age sizes
many_ages sizes is =
    let few = mul-le-mul_right {m = sizes.processes} {n = 32} (2 ^ 35 - 1) is.few_processes in
    most_age_is_greatest sizes (2 ^ 35 - 1) is.a_process (omega (arith, few))

-- the number of the last transfer is a tag
pub age_is_tag : (sizes : Sizes) → IsShape sizes → most_age sizes < tag_limit
age_is_tag sizes is =
    let one = mul-le-mul_right {m = 1} {n = sizes.processes} (most_age sizes) is.a_process in
    omega (arith, one, most_age_has_tags sizes is.a_process)
