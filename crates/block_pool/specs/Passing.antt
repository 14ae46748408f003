-- how clauses see a pool and a pass, and what a pass keeps
use Rattle.std.specs.Prelude.{◌≡◌, ℕ, true, List, [], length}
use Rattle.atomic_table.specs.Seated.{TableId}
use Rattle.word_layout.specs.Sizes.{Sizes}
use Rattle.word_table.specs.Seats.{Seated}
use Rattle.pool_model.specs.declared.entry.Entry.{Entry}
use Rattle.transfer_schedule.specs.Numbers.{Numbers}
use Rattle.pool_machine.specs.Conditions.{HasAgeFor, may_use_calls}
use Rattle.pool_machine.specs.declared.call.CallStage.TheVariants.{Between}
use Rattle.pool_table.specs.Minds.{KnownWord, number_of, entries_in, held_in}
use Rattle.pool_table.specs.Views.{SeatView}
use Rattle.pool_table.specs.Steps.{Among}
use Rattle.block_pool.specs.declared.process.Process.{Process}

-- a pool: its table and its shape
pub record Pooled : Type 0 where
  pub table : TableId
  pub sizes : Sizes

-- a pass: the table and the shape of its pool, the number of its process, and what is known of that one
pub record Passed : Type 0 where
  pub table : TableId
  pub sizes : Sizes
  pub number : ℕ
  -- what it has seen of the one history, its own entries, the blocks that it holds, and the data words that it knows of them
  pub seen : List Entry
  pub own : List Entry
  pub held : List ℕ
  pub known : List KnownWord
  -- the numbers of its private pool, how many transfers it began, and how many steps it made
  pub plan : Numbers
  pub age : ℕ
  pub moves : ℕ

-- the pass is of this pool
pub record IsOf (pool : Pooled) (pass : Passed) : Type 0 where
  pub table : pass.table ≡ pool.table
  pub sizes : pass.sizes ≡ pool.sizes

-- the pass may make an allocate or a free: where a transfer is due, it has begun fewer than a pass may
abbrev pub HasAge : Passed → Type 0
HasAge pass = HasAgeFor pass.sizes pass.plan pass.age

-- what clauses see of a pass, by its seat
abbrev pub pass_of : Seated SeatView → Passed
pass_of seat = record {
  table = seat.table;
  sizes = seat.view.sizes;
  number = number_of seat.view.mind;
  seen = seat.view.mind.seen;
  own = entries_in seat.view.mind;
  held = held_in seat.view.mind;
  known = seat.view.mind.known;
  plan = seat.view.mind.view.pool.plan;
  age = seat.view.mind.view.transfer.age;
  moves = seat.view.mind.moves;
}

-- the seat is that of a process of this shape, between two calls and free to begin one, and the running parts are those of its mind
pub record BetweenCalls (sizes : Sizes) (process : Process) : Type 0 where
  pub of_process : process.seat.view.of_process ≡ true
  pub shape : process.seat.view.sizes ≡ sizes
  pub transfer : process.seat.view.mind.view.transfer ≡ process.transfer
  pub pool : process.seat.view.mind.view.pool ≡ process.pool
  pub between : process.seat.view.mind.view.calls.stage ≡ Between
  pub way : may_use_calls process.seat.view.mind.view.calls.way ≡ true
  pub among : Among process.seat.view

-- what a pass keeps: its process is between two calls, its seat has taken in no other one, and its blocks are counted
pub record PassFits (sizes : Sizes) (process : Process) (holding : ℕ) : Type 0 where
  pub between_calls : BetweenCalls sizes process
  pub bare : process.seat.view.taken ≡ []
  pub counted : holding ≡ length (held_in process.seat.view.mind)
