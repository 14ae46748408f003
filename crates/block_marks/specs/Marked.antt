-- Marks as words of 64 bits.
use Rattle.std.specs.Prelude.{◌≡◌, ℕ, ◌<◌, ◌/◌, ◌%◌, List, slice_index_or}
use Rattle.std.specs.Int.{bit_at}

-- marks on the numbers below a bound, and the words that have their bits
pub record Marked : Type 0 where
  pub bound : ℕ
  pub words : List ℕ

-- the bit of this number is set
unfoldable pub HasBit : List ℕ → ℕ → Type 0
HasBit words number = bit_at (slice_index_or words (number / 64) 0) (number % 64) ≡ 1

-- the number is below the bound, and marked
abbrev pub Has : Marked → ℕ → Type 0
Has marks number = (number < marks.bound) × HasBit marks.words number
