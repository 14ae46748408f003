-- What so many calls of a generator make.
use Rattle.std.proofs.Common.{◌≡◌, ℕ, zero, suc, ◌+◌, length, refl, ap, add-one, length-append, arith}
use Rattle.mtrace_reader.specs.Made.{begun, making_after, with_call}

-- no call makes anything of a seed
pub making_after-none : (seed : ℕ) → making_after seed 0 ≡ begun seed
unfolding making_after
making_after-none seed = refl

-- one call more
pub making_after-more : (seed calls : ℕ) → making_after seed (calls + 1) ≡ with_call (making_after seed calls) calls
unfolding making_after
making_after-more seed calls = ap (making_after seed) (add-one calls)

-- each call makes one operation
pub length-making_after : (seed calls : ℕ) → length (making_after seed calls).operations ≡ calls
unfolding making_after
length-making_after seed zero = refl
length-making_after seed (suc calls) = grind (arith, length-append, length-making_after seed calls)
