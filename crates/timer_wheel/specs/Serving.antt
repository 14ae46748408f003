-- What the parts of a wheel's calls do to the pass that holds its timers.
use Rattle.std.specs.Prelude.{◌≡◌, ◌≢◌, ℕ, ◌+◌, ◌≤◌, Some, Contains, Option, None, length}
use Rattle.pool_table.specs.Minds.{known_in}
use Rattle.block_pool.specs.Calls.{SamePass}
use Rattle.block_pool.specs.Passing.{Passed}
use Rattle.object_store.specs.Calls.{CountedWithin}
use Rattle.object_store.specs.Objects.{HoldsWords, ObjectView}
use Rattle.timer_wheel.specs.declared.record.TimerRecord.{TimerRecord}
use Rattle.timer_wheel.specs.Places.{Places, object_at}
use Rattle.timer_wheel.specs.Views.{words_of}

-- the pass holds the block of what stands at each place, and knows its words
abbrev pub AreHeld : Places → Passed → Type 0
AreHeld places pass = (place : ℕ) (object : ObjectView TimerRecord) → object_at places place ≡ Some object
    → HoldsWords 4 (words_of object.value) object.block pass

-- the block is that of nothing at the places
abbrev pub IsFar : Places → ℕ → Type 0
IsFar places block = (place : ℕ) (object : ObjectView TimerRecord) → object_at places place ≡ Some object → object.block ≢ block

-- a block that isn't the places' stays as it is: held, with its known words, and not the places'
pub record LeavesFar (before after : Places) (old new : Passed) : Type 0 where
  pub far : (other : ℕ) → IsFar before other → Contains old.held other → IsFar after other
  pub held : (other : ℕ) → IsFar before other → Contains old.held other → Contains new.held other
  pub known : (other : ℕ) → IsFar before other → Contains old.held other
      → (index : ℕ) → known_in new.known other index ≡ known_in old.known other index

-- a part of a call that turned these places into those, and so many running timers into so many, in so many steps and transfers at most
pub record Serves (most ages start after : ℕ) (before now : Places) (was runs : ℕ) (old new : Passed) : Type 0 where
  pub same : SamePass old new
  pub holds : AreHeld now new
  pub blocks : length new.held + was ≡ length old.held + runs
  pub far : LeavesFar before now old new
  pub steps : CountedWithin 0 most start after old new
  pub age : new.age ≤ old.age + ages

-- the steps of a read: four where something stands at the place
abbrev pub steps_of : Option TimerRecord → ℕ
steps_of None = 0
steps_of (Some timer) = 4
