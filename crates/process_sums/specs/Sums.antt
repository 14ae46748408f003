-- sums of a number of each of the first so many
use Rattle.std.specs.Prelude.{ℕ, zero, suc, ◌+◌, ◌<◌}

-- the sum of a number of each of the first so many
unfoldable pub total : ℕ → (ℕ → ℕ) → ℕ
total zero number = 0
total (suc count) number = total count number + number count

-- one of the first so many whose number isn't 0
pub record SomeTerm (count : ℕ) (number : ℕ → ℕ) : Type 0 where
  pub place : ℕ
  pub within : place < count
  pub some : 0 < number place
