-- How clauses see a wheel, and what they ask of the pass that started its timers.
use Rattle.std.specs.Prelude.{◌≡◌, ◌≢◌, ℕ, ◌+◌, List, [], ◌∷◌, All, Contains, length}
use Rattle.pool_table.specs.Minds.{known_in}
use Rattle.block_pool.specs.Passing.{Passed}
use Rattle.object_store.specs.Objects.{HoldsWords, ObjectView}
use Rattle.timer_wheel.specs.declared.record.TimerRecord.{TimerRecord}
use Rattle.timer_wheel.specs.Timers.{Timers}

-- a wheel: its timers, and the objects in which they stand, in whatever order
pub record WheelView : Type 0 where
  pub timers : Timers
  pub objects : List (ObjectView TimerRecord)

-- the words of a timer's record
abbrev pub words_of : TimerRecord → List ℕ
words_of timer = timer.due ∷ timer.number ∷ timer.payload ∷ timer.next ∷ 0 ∷ 0 ∷ 0 ∷ 0 ∷ []

-- the pass holds the block of each object, and knows its words as those of the record in it
abbrev pub HoldsAll : List (ObjectView TimerRecord) → Passed → Type 0
HoldsAll objects pass = All (λ object. HoldsWords 4 (words_of object.value) object.block pass) objects

-- the block is that of none of the objects
abbrev pub IsElse : List (ObjectView TimerRecord) → ℕ → Type 0
IsElse objects block = All (λ object. object.block ≢ block) objects

-- every other block that the pass held it still holds, with its known words as before, and it is none of the later objects' either
pub record KeepsElse (before after : List (ObjectView TimerRecord)) (old new : Passed) : Type 0 where
  pub apart : (other : ℕ) → IsElse before other → Contains old.held other → IsElse after other
  pub held : (other : ℕ) → IsElse before other → Contains old.held other → Contains new.held other
  pub known : (other : ℕ) → IsElse before other → Contains old.held other
      → (index : ℕ) → known_in new.known other index ≡ known_in old.known other index

-- the pass holds as many blocks more or fewer as timers run more or fewer
abbrev pub HoldsAsMany : Timers → Timers → Passed → Passed → Type 0
HoldsAsMany before after old new = length new.held + length before.running ≡ length old.held + length after.running
