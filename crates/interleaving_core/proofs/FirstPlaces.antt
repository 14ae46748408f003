-- the content of the stack, place by place
use Rattle.std.proofs.Common.{◌≡◌, ℕ, suc, ◌+◌, [], ◌∷◌, ◌++◌, refl, arith}
use Rattle.transfer_machine.specs.Words.{first_of}

-- the first none of values are none
pub first_none : (values : ℕ → ℕ) → first_of 0 values ≡ []
unfolding first_of
first_none values = refl

-- one more is the next value behind them
pub first_more : (count : ℕ) (values : ℕ → ℕ) → first_of (count + 1) values ≡ first_of count values ++ values count ∷ []
unfolding first_of
first_more count values = let next : count + 1 ≡ suc count = omega arith in rw next refl
