-- a search: it runs its transfers to their ends, and then gets a block as an allocate does
use Rattle.std.specs.Prelude.{◌≡◌, ℕ, ◌+◌, ◌*◌, ◌≤◌, ◌↔◌, Bool, true, false, Some, List, [], ◌∷◌, ◌++◌}
use Rattle.word_layout.specs.Sizes.{Sizes, limits_of, transfer_bound}
use Rattle.pool_model.specs.declared.entry.Entry.{Entry}
use Rattle.pool_model.specs.declared.entry.Entry.TheVariants as entry
use Rattle.transfer_schedule.specs.Numbers.{Numbers, is_idle, after_choice, after_steps, after_end, after_took_one}
use Rattle.transfer_machine.specs.Machine.{met_of}
use Rattle.transfer_invariant.specs.Progress.{is_reply}
use Rattle.pool_machine.specs.Beginning.{search_chosen}
use Rattle.pool_machine.specs.Pools.{pool_met_at}
use Rattle.pool_machine.specs.declared.call.Call.TheVariants.{Search}
use Rattle.pool_machine.specs.declared.call.CallStage.TheVariants.{Moving}
use Rattle.pool_machine.specs.declared.call.Way.TheVariants.{Calls}
use Rattle.pool_machine.specs.declared.view.ProcessView.{ProcessView}
use Rattle.history_invariant.specs.Fits.{HadFewNow}
use Rattle.pool_table.specs.declared.about.About.TheVariants.{InCall}
use Rattle.pool_table.specs.Steps.{Stepped}
use Rattle.block_pool.specs.declared.pool.Answer.{Answer}
use Rattle.block_pool.specs.declared.pool.Answer.TheVariants.{Dry}
use Rattle.block_pool.specs.declared.process.Process.{Process}
use Rattle.block_pool.specs.Calls.{HasNoBlock, CallMade}
use Rattle.block_pool.specs.Passing.{Passed}
use Rattle.block_pool.specs.Running.{CanGo, IsOwning}

-- the plan once the pending transfer has run to its end, in so many steps: none where nothing is pending
pub data PlanEnds (plan : Numbers) : ℕ → Numbers → Type 0 where
  rests : is_idle plan.pending ≡ true → PlanEnds plan 0 plan
  ends : (n : ℕ) (found : Bool) → is_idle plan.pending ≡ false → 1 ≤ n → plan.done + n ≤ plan.bound
      → PlanEnds plan n (after_end found (after_steps n plan))

-- the plan before the own step of a search, which made so many steps of transfers: what was pending ran to its end, then what was due
-- began and ran to its end
pub record PlanSought (plan : Numbers) (moved : ℕ) (ran : Numbers) : Type 0 where
  pub met : ℕ
  pub ended : Numbers
  pub ends : PlanEnds plan met ended
  pub begun : ℕ
  pub runs : PlanEnds (after_choice ended) begun ran
  pub all : moved ≡ met + begun

-- the plan went on so in a search, up to its own step; it is refused exactly where it has no block then
pub record Searched (answer : Answer) (old new : Passed) : Type 0 where
  pub moved : ℕ
  pub moves : new.moves ≡ old.moves + moved + 1
  pub ran : Numbers
  pub sought : PlanSought old.plan moved ran
  pub own : new.plan ≡ after_took_one ran
  pub dry : (answer ≡ Dry) ↔ HasNoBlock ran

-- a refusal's moment within its own call: in what the pass has seen, after the entry that it made before the refusal, a place at which at
-- most the slack was unheld
pub record WasRefusedNow (old new : Passed) : Type 0 where
  pub past : List Entry
  pub ends : new.seen ≡ past ++ entry.Dry old.number ∷ []
  pub had_few : HadFewNow (limits_of old.sizes) past old.number

-- at a step of a transfer in a search: of its own one where it has chosen, else of the one that it met
abbrev pub seeking : Bool → Process → ProcessView
seeking chosen process = record {
  transfer = process.transfer;
  pool = process.pool;
  calls = record { stage = Moving; call = Some Search; steps = 0; chosen = chosen; way = Calls };
}

-- a search is at a step of a transfer: of its own where it has chosen
abbrev pub IsSeeking : Sizes → Bool → Process → Type 0
IsSeeking sizes chosen process = CanGo sizes Search (seeking chosen process) process.seat.view

-- a search with nothing pending goes on with its choice: it begins what is due, if anything
pub record CanChoose (sizes : Sizes) (process : Process) : Type 0 where
  pub transfer : process.seat.view.mind.view.transfer ≡ process.transfer
  pub pool : process.seat.view.mind.view.pool ≡ process.pool
  pub go : CanGo sizes Search (search_chosen process.seat.view.mind.view) process.seat.view

-- where a search stands once the transfer has ended: at its own step where it had chosen, else at its choice
abbrev pub HasRun : Sizes → Bool → Process → Type 0
HasRun sizes true process = IsOwning sizes Search 0 process
HasRun sizes false process = CanChoose sizes process

-- one step of the transfer was made in a search; `ended` says whether it was the last
pub record SoughtOne (sizes : Sizes) (old : Process) (ended : Bool) (new : Process) : Type 0 where
  pub word : ℕ
  pub stepped : Stepped (InCall Search) old.seat.view word new.seat.view
  pub transfer : new.transfer ≡ met_of sizes old.transfer word
  pub pool : new.pool ≡ pool_met_at word old.pool old.transfer.next
  pub last : ended ≡ is_reply old.transfer.next

-- a whole search of a process that made this entry
pub record SearchCalled (sizes : Sizes) (made : Entry) (before after : ℕ) (old new : Process) : Type 0 where
  pub moved : ℕ
  pub few : moved ≤ 2 * transfer_bound sizes
  pub steps : after ≡ before + moved + 1
  pub call : CallMade Search (made ∷ []) moved old.seat.view new.seat.view
  pub ran : Numbers
  pub sought : PlanSought old.pool.plan moved ran
  pub own : new.pool.plan ≡ after_took_one ran
  pub age : new.transfer.age ≤ old.transfer.age + 1
