-- A script that a process plays with its pass. What is said of scripts and outcomes of its kind is the player's: `suits sizes script` where
-- a pool of these sizes has what the script needs, `most_calls script` for the most calls that it makes, and `fits course script outcome`
-- where a process that plays the script may take this course and leave this.
use Rattle.std.specs.Prelude.{◌≡◌, ℕ, ◌+◌, ◌≤◌, List, ◌++◌}
use Rattle.word_layout.specs.Sizes.{Sizes}
use Rattle.word_layout.specs.Packing.{most_age}
use Rattle.block_pool.specs.Passing.{IsOf, Passed, Pooled}
use Rattle.pass_players.specs.Growing.{Grows}
use Rattle.pass_players.specs.Moments.{MadeCall, Moment, entries_of, moments_before}

-- what a process did: its calls, and how many steps it had made before it began and when it had ended, with the quantum of its pool
pub record Course : Type 0 where
  pub process : ℕ
  pub calls : List MadeCall
  pub quantum : ℕ
  pub before : ℕ
  pub after : ℕ

-- that of a pass that made these calls
abbrev pub course_of : List MadeCall → Passed → Passed → Course
course_of calls old new = record {
  process = old.number;
  calls = calls;
  quantum = old.sizes.quantum;
  before = old.moves;
  after = new.moves;
}

-- the pass may play the script: it is of the pool, which suits the script, and has begun so few transfers that each call may begin one more
pub record MayPlay {S : Type 0} (suits : Sizes → S → Type 0) (most_calls : S → ℕ) (pool : Pooled) (pass : Passed) (script : S)
    : Type 0 where
  pub of_pool : IsOf pool pass
  pub suited : suits pool.sizes script
  pub young : pass.age + most_calls script ≤ most_age pool.sizes

-- the pass made these calls: its own list grew by their entries, and its gate was told of the moment before each of them, and of no other
pub record HasMade (calls : List MadeCall) (told_before told_now : List Moment) (old new : Passed) : Type 0 where
  pub grown : Grows (entries_of calls) old new
  pub told : told_now ≡ told_before ++ moments_before old.number old.own calls

-- the pass made calls that fit the script and the outcome
pub record PlayedOnce {S O : Type 0} (fits : Course → S → O → Type 0) (told_before told_now : List Moment) (script : S) (old new : Passed)
    (outcome : O) : Type 0 where
  pub calls : List MadeCall
  pub made : HasMade calls told_before told_now old new
  pub fitted : fits (course_of calls old new) script outcome
