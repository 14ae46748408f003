-- Scripts that were all played over one pool, which was closed then.
use Rattle.std.specs.Prelude.{◌≡◌, ℕ, ◌≤◌, Some, List, [], ◌++◌, length, slice_get, take}
use Rattle.word_layout.specs.Packing.{most_age}
use Rattle.word_layout.specs.Sizes.{Sizes, limits_of}
use Rattle.pool_model.specs.History.{own}
use Rattle.pool_model.specs.Legal.{IsLegal}
use Rattle.block_pool.specs.Closing.{Settlement}
use Rattle.block_pool.specs.Passing.{Passed, Pooled}
use Rattle.pass_players.specs.Moments.{IsTold, MadeCall, Moment, entries_of, moments_before}
use Rattle.pass_players.specs.Playing.{Course}

-- the course of process k in a settled pool, from where it had made so many steps
abbrev pub course_in : Settlement → ℕ → List MadeCall → ℕ → ℕ → Course
course_in settled k calls before after = record {
  process = k;
  calls = calls;
  quantum = settled.sizes.quantum;
  before = before;
  after = after;
}

-- the gates were told of nothing but by so many processes: there are as many, and the others were told what they had been told before
pub record OthersUntold (processes : ℕ) (told_before told_now : List (List Moment)) : Type 0 where
  pub as_many : length told_now ≡ length told_before
  pub others : (k : ℕ) → processes ≤ k → slice_get told_now k ≡ slice_get told_before k

-- the history begins with what the pass of process k had seen, and its entries of process k are those that the pass had, and then those of
-- calls that fit the script and the outcome; and gate k was told of the moment before each of these, and of no other
pub record PlayedIn {S O : Type 0} (fits : Course → S → O → Type 0) (told_before told_now : List (List Moment)) (settled : Settlement)
    (k : ℕ) (pass : Passed) (script : S) (outcome : O) : Type 0 where
  pub calls : List MadeCall
  pub its_own : own settled.history k ≡ pass.own ++ entries_of calls
  pub begins : take (length pass.seen) settled.history ≡ pass.seen
  pub moves : ℕ
  pub its_moves : slice_get settled.moves k ≡ Some moves
  pub fitted : fits (course_in settled k calls pass.moves moves) script outcome
  pub told : IsTold told_before told_now k (moments_before k pass.own calls)

-- one legal history has the calls of all processes for their scripts
pub record PlayedAll {S O : Type 0} (fits : Course → S → O → Type 0) (told_before told_now : List (List Moment)) (pool : Pooled)
    (passes : List Passed) (scripts : List S) (outcomes : List O) (settled : Settlement) : Type 0 where
  pub shape : settled.sizes ≡ pool.sizes
  pub legal : IsLegal (limits_of pool.sizes) settled.history
  pub one_each : length outcomes ≡ length scripts
  pub each : (k : ℕ) (pass : Passed) (script : S) (outcome : O) → slice_get passes k ≡ Some pass → slice_get scripts k ≡ Some script
      → slice_get outcomes k ≡ Some outcome → PlayedIn fits told_before told_now settled k pass script outcome
  pub untold : OthersUntold pool.sizes.processes told_before told_now

-- a fresh pass may play the script over a pool of these sizes
pub record IsPlayable {S : Type 0} (suits : Sizes → S → Type 0) (most_calls : S → ℕ) (sizes : Sizes) (script : S) : Type 0 where
  pub suited : suits sizes script
  pub few : most_calls script ≤ most_age sizes

-- the entries of process k in the history are those of calls that fit the script and the outcome, and it made no step before them; and
-- gate k was told of the moment before each of these, and of no other
pub record FitsIn {S O : Type 0} (fits : Course → S → O → Type 0) (told_before told_now : List (List Moment)) (settled : Settlement) (k : ℕ)
    (script : S) (outcome : O) : Type 0 where
  pub calls : List MadeCall
  pub its_own : own settled.history k ≡ entries_of calls
  pub moves : ℕ
  pub its_moves : slice_get settled.moves k ≡ Some moves
  pub fitted : fits (course_in settled k calls 0 moves) script outcome
  pub told : IsTold told_before told_now k (moments_before k [] calls)

-- the pool had this shape and was closed with one legal history, in which the entries of each process fit the script of its place
pub record IsSettledBy {S O : Type 0} (fits : Course → S → O → Type 0) (told_before told_now : List (List Moment)) (sizes : Sizes)
    (scripts : List S) (outcomes : List O) (settled : Settlement) : Type 0 where
  pub shape : settled.sizes ≡ sizes
  pub legal : IsLegal (limits_of sizes) settled.history
  pub one_each : length outcomes ≡ length scripts
  pub each : (k : ℕ) (script : S) (outcome : O) → slice_get scripts k ≡ Some script → slice_get outcomes k ≡ Some outcome
      → FitsIn fits told_before told_now settled k script outcome
  pub untold : OthersUntold sizes.processes told_before told_now
