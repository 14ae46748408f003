-- what the calls of a pool do to a pass
use Rattle.std.specs.Prelude.{◌≡◌, ℕ, ◌+◌, ◌<◌, ◌≤◌, ◌↔◌, Option, None, Some, List, [], ◌∷◌, ◌++◌, Contains}
use Rattle.atomic_table.specs.Seated.{TableId}
use Rattle.word_layout.specs.Sizes.{Sizes, blocks}
use Rattle.word_layout.specs.Names.{table_words}
use Rattle.word_table.specs.Seats.{SameSeat}
use Rattle.pool_model.specs.declared.entry.Entry.{Entry}
use Rattle.pool_model.specs.declared.entry.Entry.TheVariants as entry
use Rattle.pool_model.specs.History.{held, grip_after}
use Rattle.transfer_schedule.specs.Numbers.{Numbers, after_choice, after_took_one}
use Rattle.pool_machine.specs.declared.call.Call.{Call}
use Rattle.pool_table.specs.Minds.{number_of, entries_in, held_in}
use Rattle.pool_table.specs.Turns.{words_by_call}
use Rattle.pool_table.specs.Views.{SeatView}
use Rattle.pool_table.specs.Steps.{SeesMore, SeenAfter}
use Rattle.block_pool.specs.declared.pool.Answer.{Answer}
use Rattle.block_pool.specs.declared.pool.Answer.TheVariants.{Got, Dry}
use Rattle.block_pool.specs.declared.process.Process.{Process}
use Rattle.block_pool.specs.Moves.{PlanRuns}
use Rattle.block_pool.specs.Passing.{Passed, BetweenCalls}

-- a call leaves which pass it is
pub record SamePass (old new : Passed) : Type 0 where
  pub table : new.table ≡ old.table
  pub sizes : new.sizes ≡ old.sizes
  pub number : new.number ≡ old.number

-- the steps of a call: some of the pending transfer, at most a quantum, and its own one; the counter and the pass count them alike
pub record Counted (quantum before after : ℕ) (old new : Passed) : Type 0 where
  pub moved : ℕ
  pub few : moved ≤ quantum
  pub steps : after ≡ before + moved + 1
  pub moves : new.moves ≡ old.moves + moved + 1

-- the pass made this entry alone: it has seen more, this entry at the end, and holds what that makes of its blocks
pub record Entered (entry : Entry) (old new : Passed) : Type 0 where
  pub own : new.own ≡ old.own ++ entry ∷ []
  pub seen : SeesMore old.seen new.seen (entry ∷ [])
  pub held : new.held ≡ grip_after old.held entry

-- the block that the pass got was free: one of the pool, not held by the pass, and in what it has seen from before that entry held by
-- nobody
pub record WasFree (block : ℕ) (old new : Passed) : Type 0 where
  pub within : block < blocks old.sizes
  pub not_own : ¬ Contains old.held block
  pub nobodys : (past : List Entry) → new.seen ≡ past ++ entry.Got old.number block ∷ [] → ¬ Contains (held past) block

-- a plan with no block: its current list is empty, and there is no spare
abbrev pub HasNoBlock : Numbers → Type 0
HasNoBlock plan = (plan.current ≡ 0) × (plan.spares ≡ 0)

-- the plan went on as the schedule says: by what is due, by the call's steps of the transfer and its end, and by the own step
pub record PlanMoved (owned : Numbers → Numbers) (old new : Passed) : Type 0 where
  pub moved : ℕ
  pub moves : new.moves ≡ old.moves + moved + 1
  pub ran : Numbers
  pub runs : PlanRuns old.sizes.quantum (after_choice old.plan) moved ran
  pub own : new.plan ≡ owned ran

-- so it did in an allocate, which is refused exactly where it has no block before the own step
pub record Allocated (answer : Answer) (old new : Passed) : Type 0 where
  pub plan : PlanMoved after_took_one old new
  pub dry : (answer ≡ Dry) ↔ HasNoBlock plan.ran

-- the entry of an allocate that is answered so
abbrev pub entry_of : ℕ → Answer → Entry
entry_of by (Got block) = entry.Got by block
entry_of by Dry = entry.Dry by

-- the entry of an allocate that gets this block, if any
abbrev pub entry_for : ℕ → Option ℕ → Entry
entry_for by None = entry.Dry by
entry_for by (Some block) = entry.Got by block

-- a process may begin a call on this table: its seat is of it, and it is between two calls
pub record IsReady (sizes : Sizes) (table : TableId) (process : Process) : Type 0 where
  pub of_table : process.seat.table ≡ table
  pub whole : table.words ≡ table_words sizes
  pub between : BetweenCalls sizes process

-- so it may begin a read or a write of a data word: it holds the block, and the index is one of a block's
pub record MayTouch (sizes : Sizes) (table : TableId) (process : Process) (block index : ℕ) : Type 0 where
  pub ready : IsReady sizes table process
  pub held : Contains (held_in process.seat.view.mind) block
  pub low : index < sizes.words

-- a seat before and after a whole call that makes these entries, with so many steps of the transfer
pub record CallMade (call : Call) (entries : List Entry) (n : ℕ) (before after : SeatView) : Type 0 where
  pub stays : after ≡ record before { mind = after.mind }
  pub number : number_of after.mind ≡ number_of before.mind
  pub seen : SeenAfter entries before.mind.seen after.mind.seen
  pub entries_after : entries_in after.mind ≡ entries_in before.mind ++ entries
  pub known : after.mind.known ≡ words_by_call (Some call) before.mind.known
  pub moves : after.mind.moves ≡ before.mind.moves + n + 1

-- a whole allocate or free of a process: so many steps of the transfer, its plan before the own step and after it, and its age
pub record PoolCalled (sizes : Sizes) (call : Call) (entries : List Entry) (owned : Numbers → Numbers) (before after : ℕ)
    (old new : Process) : Type 0 where
  pub moved : ℕ
  pub few : moved ≤ sizes.quantum
  pub steps : after ≡ before + moved + 1
  pub made : CallMade call entries moved old.seat.view new.seat.view
  pub ran : Numbers
  pub runs : PlanRuns sizes.quantum (after_choice old.pool.plan) moved ran
  pub own : new.pool.plan ≡ owned ran
  pub age : new.transfer.age ≤ old.transfer.age + 1

-- a whole read or write of a process: one step, which leaves its transfer and its pool
pub record WordCalled (sizes : Sizes) (call : Call) (before after : ℕ) (old new : Process) : Type 0 where
  pub seat : SameSeat old.seat new.seat
  pub steps : after ≡ before + 1
  pub made : CallMade call [] 0 old.seat.view new.seat.view
  pub transfer : new.transfer ≡ old.transfer
  pub pool : new.pool ≡ old.pool
  pub between : BetweenCalls sizes new
