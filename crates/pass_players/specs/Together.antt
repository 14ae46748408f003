-- Scripts that are played together, each with a pass of its own.
use Rattle.std.specs.Prelude.{◌≡◌, ℕ, Some, List, length, slice_get}
use Rattle.word_layout.specs.Sizes.{Sizes}
use Rattle.block_pool.specs.Passing.{Passed, Pooled}
use Rattle.pass_players.specs.Moments.{Moment}
use Rattle.pass_players.specs.Playing.{Course, MayPlay, PlayedOnce}

-- there is a script for each pass, and each pass may play the script of its place
pub record MayPlayTogether {S : Type 0} (suits : Sizes → S → Type 0) (most_calls : S → ℕ) (pool : Pooled) (passes : List Passed)
    (scripts : List S) : Type 0 where
  pub one_each : length passes ≡ length scripts
  pub each : (k : ℕ) (pass : Passed) (script : S) → slice_get passes k ≡ Some pass → slice_get scripts k ≡ Some script
      → MayPlay suits most_calls pool pass script

-- each script was played once by the pass of its place, which stands at the same place again, and told the gate of that place
pub record PlayedTogether {S O : Type 0} (fits : Course → S → O → Type 0) (told_before told_now : List (List Moment))
    (before : List Passed) (scripts : List S) (after : List Passed) (outcomes : List O) : Type 0 where
  pub passes : length after ≡ length before
  pub one_each : length outcomes ≡ length scripts
  pub each : (k : ℕ) (old new : Passed) (script : S) (outcome : O) (earlier now : List Moment) → slice_get before k ≡ Some old
      → slice_get after k ≡ Some new → slice_get scripts k ≡ Some script → slice_get outcomes k ≡ Some outcome
      → slice_get told_before k ≡ Some earlier → slice_get told_now k ≡ Some now
      → PlayedOnce fits earlier now script old new outcome
