-- passes before and after calls
use Rattle.std.specs.Prelude.{◌≡◌, ℕ, ◌<◌, List, length, slice_index_or}
use Rattle.block_pool.specs.Passing.{Passed}
use Rattle.block_pool.specs.Calls.{SamePass}

-- each pass is the same one as before
pub record StayInOrder (old new : List Passed) : Type 0 where
  pub many : length new ≡ length old
  pub each : (k : ℕ) (d : Passed) → k < length old → SamePass (slice_index_or old k d) (slice_index_or new k d)
