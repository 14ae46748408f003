-- what holds of a process that has begun no transfer alone: its ledger goes with its pool
use Rattle.std.specs.Prelude.{◌≡◌, ◌≢◌, ℕ, ◌<◌, true, None, Some, [], length}
use Rattle.word_layout.specs.Sizes.{Sizes, transfer_bound}
use Rattle.word_layout.specs.Packing.{most_age}
use Rattle.transfer_schedule.specs.Numbers.{AreSizes}
use Rattle.transfer_schedule.specs.Account.{Account, Reached, opened}
use Rattle.pool_machine.specs.Pools.{opening_view}
use Rattle.pool_machine.specs.declared.call.CallStage.TheVariants.{Between, Choosing, Moving, Own}
use Rattle.pool_machine.specs.declared.call.Call.TheVariants.{Search}
use Rattle.pool_machine.specs.declared.call.CallView.{CallView}
use Rattle.pool_machine.specs.Steps.{is_paced}
use Rattle.pool_machine.specs.declared.call.Way.TheVariants.{Fresh, Alone}
use Rattle.transfer_machine.specs.declared.stage.NextStep.{NextStep}
use Rattle.transfer_machine.specs.declared.stage.NextStep.TheVariants.{Rest, Announce}
use Rattle.pool_machine.specs.declared.view.ProcessView.{ProcessView}
use Rattle.transfer_invariant.specs.Progress.{has_announced}
use Rattle.pool_invariant.specs.Holds.{PoolRuns}
use Rattle.history_invariant.specs.Ledger.{Ledger}
use Rattle.history_invariant.specs.Steps.{GoesOn}
use Rattle.call_invariant.specs.Phases.{changes_pool, may_choose_at, call_phase}

-- the sizes are those of a schedule, which reaches the account
pub record Scheduled (sizes : Sizes) (account : Account) : Type 0 where
  pub fit : AreSizes sizes.length (transfer_bound sizes) sizes.quantum
  pub reached : Reached sizes.length (transfer_bound sizes) sizes.quantum account

-- nothing is entered in the ledger: its account is that of the opening, and it has no entries
pub record NothingEntered (sizes : Sizes) (ledger : Ledger) : Type 0 where
  pub account : ledger.account ≡ opened sizes.length (transfer_bound sizes) sizes.quantum
  pub none : ledger.entries ≡ []

-- the process is as it was at the opening
pub record IsFresh (sizes : Sizes) (process : ℕ) (v : ProcessView) (ledger : Ledger) : Type 0 where
  pub view : v ≡ opening_view sizes process
  pub nothing : NothingEntered sizes ledger

-- between two calls there is none; at transfer steps it is an allocate or a free, a transfer is pending, and fewer steps than a quantum
-- are made; at the own step there is one
pub record StageFits (quantum : ℕ) (calls : CallView) (next : NextStep) : Type 0 where
  pub none : calls.stage ≡ Between → calls.call ≡ None
  pub changes : calls.stage ≡ Moving → changes_pool calls.call ≡ true
  pub pending : calls.stage ≡ Moving → next ≢ Rest
  pub few : calls.stage ≡ Moving → is_paced calls.call ≡ true → calls.steps < quantum
  pub some : calls.stage ≡ Own → calls.call ≢ None
  pub searches : calls.stage ≡ Choosing → calls.call ≡ Some Search
  pub rests : calls.stage ≡ Choosing → next ≡ Rest

-- a call that may still begin a transfer has the age for it, which stays as it is: what is pending was announced
pub record MayChoose (sizes : Sizes) (v : ProcessView) : Type 0 where
  pub young : v.transfer.age < most_age sizes
  pub announced : v.transfer.next ≢ Announce

-- the ledger has the plan of the pool and the phase of the process; each spare has its head; an announced transfer has made a step; a
-- process that has begun no call is as it was
pub record InCalls (sizes : Sizes) (process : ℕ) (v : ProcessView) (ledger : Ledger) : Type 0 where
  pub way : v.calls.way ≢ Alone
  pub plan : ledger.account.plan ≡ v.pool.plan
  pub phase : ledger.account.phase ≡ call_phase v
  pub runs : PoolRuns sizes v
  pub heads : length v.pool.heads ≡ v.pool.plan.spares
  pub announced : has_announced v.transfer.next ≡ true → 0 < v.pool.plan.done
  pub stage : StageFits sizes.quantum v.calls v.transfer.next
  pub choice : may_choose_at v.calls v.calls.stage ≡ true → MayChoose sizes v
  pub fresh : v.calls.way ≡ Fresh → IsFresh sizes process v ledger

-- a step that makes no entry leads from one ledger to another, with which the view of the process goes
pub record CarriesOn (sizes : Sizes) (process : ℕ) (v : ProcessView) (old new : Ledger) : Type 0 where
  pub goes : GoesOn old new
  pub calls : InCalls sizes process v new
