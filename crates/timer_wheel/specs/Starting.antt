-- How a start is answered.
use Rattle.std.specs.Prelude.{◌≡◌, ℕ}
use Rattle.block_pool.specs.declared.pool.Answer.TheVariants as answer
use Rattle.block_pool.specs.Calls.{Entered, entry_of}
use Rattle.block_pool.specs.Passing.{Passed}
use Rattle.object_store.specs.Calls.{AllocatedFirst}
use Rattle.timer_wheel.specs.declared.key.Started.{Started}
use Rattle.timer_wheel.specs.declared.key.Started.TheVariants.{Running, Crowded, Full}
use Rattle.timer_wheel.specs.Timers.{Timers, with_started}

-- the timers after a start: one more where it is answered Running, and else the same
abbrev pub after_start : Started → ℕ → ℕ → Timers → Timers
after_start (Running key) delay payload timers = with_started delay payload timers
after_start Crowded delay payload timers = timers
after_start Full delay payload timers = timers

-- the key of a start, where it has one, has this number
abbrev pub HasKey : ℕ → Started → Type 0
HasKey number (Running key) = key.number ≡ number
HasKey number Crowded = Unit {0}
HasKey number Full = Unit {0}

-- the put of a start, which began with an allocate: none where it is Crowded; it got a block where it is Running, and none where it is Full
abbrev pub PutSo : Started → Passed → Passed → Type 0
PutSo (Running key) old new =
    (block : ℕ) × Entered (entry_of old.number (answer.Got block)) old new × AllocatedFirst (answer.Got block) old new
PutSo Crowded old new = new ≡ old
PutSo Full old new = Entered (entry_of old.number answer.Dry) old new × AllocatedFirst answer.Dry old new
