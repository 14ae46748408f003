-- the steps that a call makes of the pending transfer
use Rattle.std.specs.Prelude.{◌≡◌, ℕ, ◌+◌, ◌≤◌, Bool, true, false}
use Rattle.word_layout.specs.Sizes.{Sizes}
use Rattle.transfer_schedule.specs.Numbers.{Numbers, is_idle, after_steps, after_end}
use Rattle.transfer_machine.specs.Machine.{met_of}
use Rattle.transfer_machine.specs.declared.stage.NextStep.{NextStep}
use Rattle.transfer_machine.specs.declared.stage.NextStep.TheVariants.{Announce}
use Rattle.transfer_machine.specs.declared.transfer.TransferView.{TransferView}
use Rattle.transfer_invariant.specs.Progress.{is_reply}
use Rattle.pool_machine.specs.Pools.{pool_met_at}
use Rattle.pool_machine.specs.declared.call.Call.{Call}
use Rattle.pool_machine.specs.declared.view.PoolView.{PoolView}
use Rattle.pool_table.specs.declared.about.About.TheVariants.{InCall}
use Rattle.pool_table.specs.Minds.{number_of, entries_in}
use Rattle.pool_table.specs.Views.{SeatView}
use Rattle.pool_table.specs.Steps.{Stepped}
use Rattle.block_pool.specs.declared.process.Process.{Process}
use Rattle.block_pool.specs.Running.{counted}

-- the running pool counts the steps of a call once: with the last one of the transfer, or else after the most
abbrev pub counted_unless : Bool → ℕ → PoolView → PoolView
counted_unless true n pool = pool
counted_unless false n pool = counted n pool

-- the plan after a step of the transfer, of which so many were made in this call: it stays, or the transfer ends
abbrev pub PlanStepped : Bool → ℕ → Numbers → Numbers → Type 0
PlanStepped true n old new = (found : Bool) × (new ≡ after_end found (after_steps n old))
PlanStepped false n old new = new ≡ old

-- the running pool after the next step of the transfer met this word, so many having been made in this call before; `ended` says whether
-- it was the last of the transfer
pub record PoolMoved (next : NextStep) (n word : ℕ) (old : PoolView) (ended : Bool) (new : PoolView) : Type 0 where
  pub pool : counted_unless ended (n + 1) new ≡ pool_met_at word (counted n old) next
  pub last : ended ≡ is_reply next
  pub plan : PlanStepped ended (n + 1) old.plan new.plan

-- one step of the transfer was made, so many having been made in this call before
pub record MovedOne (sizes : Sizes) (call : Call) (n : ℕ) (old : Process) (ended : Bool) (new : Process) : Type 0 where
  pub word : ℕ
  pub stepped : Stepped (InCall call) old.seat.view word new.seat.view
  pub transfer : new.transfer ≡ met_of sizes old.transfer word
  pub pool : PoolMoved old.transfer.next n word old.pool ended new.pool

-- so many steps of the transfer leave all of a seat but where its process is in the transfer, and its moves
pub record MovedOn (before : SeatView) (n : ℕ) (v : SeatView) : Type 0 where
  pub stays : v ≡ record before { mind = v.mind }
  pub number : number_of v.mind ≡ number_of before.mind
  pub seen : v.mind.seen ≡ before.mind.seen
  pub known : v.mind.known ≡ before.mind.known
  pub entries : entries_in v.mind ≡ entries_in before.mind
  pub moves : v.mind.moves ≡ before.mind.moves + n

-- a transfer's age is at most so much, also once it has made its announcement
pub record AgesWithin (most : ℕ) (t : TransferView) : Type 0 where
  pub within : t.age ≤ most
  pub announced : t.next ≡ Announce → t.age + 1 ≤ most

-- the plan after the transfer steps of a call, of which there are so many: none where nothing is pending, else exactly the most unless
-- the transfer ends earlier
pub data PlanRuns (most : ℕ) (plan : Numbers) : ℕ → Numbers → Type 0 where
  rests : is_idle plan.pending ≡ true → PlanRuns most plan 0 plan
  runs_on : is_idle plan.pending ≡ false → PlanRuns most plan most (after_steps most plan)
  ends : (n : ℕ) (found : Bool) → is_idle plan.pending ≡ false → 1 ≤ n → n ≤ most
      → PlanRuns most plan n (after_end found (after_steps n plan))
