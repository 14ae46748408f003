-- the blocks of a batch
use Rattle.std.proofs.Common.{◌≡◌, ℕ, ◌+◌, ◌*◌, ◌<◌, ◌≤◌, inl, inr, arith}
use Rattle.std.proofs.Math.Nat.{mul-le-mul_right}
use Rattle.std.proofs.lemmas.Bool.{cases_lt}
use Rattle.std.proofs.lemmas.Grind.{div_ceil_times}
use Rattle.std.specs.Int.{div_ceil}
use Rattle.word_layout.specs.Sizes.{IsLength, transfer_steps}

-- nothing below a quotient that was rounded up is enough
least_quotient : (bound q d n : ℕ) → d * q < bound + q → bound ≤ q * n → d ≤ n
least_quotient bound q d n low h =
    elim (cases_lt n d) [
      | inl below ↦ omega (arith, mul-le-mul_right {m = n + 1} {n = d} q (omega arith))
      | inr least ↦ least
    ]

-- the quotient that was rounded up is the least number that is enough
pub quotient_is_length : (processes q l : ℕ) → 1 ≤ q → l ≡ div_ceil (transfer_steps processes) q → IsLength processes q l
quotient_is_length processes q l some is =
    let bounds = div_ceil_times (transfer_steps processes) q (omega arith) in
    record {
      enough = rw is (omega (arith, bounds.0));
      least = λ n h. rw is (least_quotient (transfer_steps processes) q (div_ceil (transfer_steps processes) q) n bounds.1 h);
    }

-- there is one such number
pub one_length : (processes q l m : ℕ) → IsLength processes q l → IsLength processes q m → l ≡ m
one_length processes q l m first second = omega (arith, first.least m second.enough, second.least l first.enough)
