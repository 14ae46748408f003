-- what holds of every view, every call and every word
use Rattle.std.specs.Prelude.{◌≡◌, ◌≢◌, ℕ, ◌+◌, ◌*◌, ◌<◌, ◌≤◌, ◌↔◌, Bool, IsTrue, true, Option, None, Some}
use Rattle.word_layout.specs.Sizes.{Sizes, transfer_bound}
use Rattle.word_layout.specs.Packing.{FitsWish}
use Rattle.word_layout.specs.declared.announced.Wish.{Wish}
use Rattle.transfer_schedule.specs.Numbers as schedule
use Rattle.transfer_schedule.specs.declared.pending.Pending.TheVariants.{Idle}
use Rattle.pool_machine.specs.Pools.{opening_view, MayBegin}
use Rattle.pool_machine.specs.declared.call.Call.{Call}
use Rattle.pool_machine.specs.declared.call.Call.TheVariants.{Allocate, Free, Read, Write, Search}
use Rattle.pool_machine.specs.declared.call.CallStage.TheVariants.{Between}
use Rattle.transfer_machine.specs.declared.stage.NextStep.TheVariants.{Rest}
use Rattle.pool_machine.specs.declared.view.ProcessView.{ProcessView}
use Rattle.pool_machine.specs.Beginning.{due, before_call, call_begun}
use Rattle.pool_machine.specs.Conditions.{MayCall, MayMove, may_call, may_move}
use Rattle.pool_machine.specs.OwnSteps.{own_met}
use Rattle.pool_machine.specs.Steps.{call_met, is_paced}
use Rattle.pool_machine.specs.Ready.{PlanFits, CanBegin}

-- the test of the condition on a call is this condition
abbrev pub ConditionsAreTests : Type 0
ConditionsAreTests =
    (sizes : Sizes) (holds : Bool) (call : Call) (v : ProcessView) → IsTrue (may_call sizes holds call v) ↔ MayCall sizes holds call v

-- and so is that of the condition on a transfer alone
abbrev pub MovesAreTests : Type 0
MovesAreTests = (v : ProcessView) → IsTrue (may_move v) ↔ MayMove v

-- the transfer that begins with a call is the one that the plan chooses
abbrev pub ChoicesAreThePlans : Type 0
ChoicesAreThePlans = (v : ProcessView) → (before_call v).pool.plan ≡ schedule.after_choice v.pool.plan

-- a transfer with this wish can begin at this view
pub record CanBeginWish (v : ProcessView) (wish : Wish) : Type 0 where
  pub rest : v.transfer.next ≡ Rest
  pub idle : v.pool.plan.pending ≡ Idle
  pub fits : FitsWish wish
  pub may : MayBegin wish v.pool

-- and so can the one that is due
abbrev pub DueTransfersCanBegin : Type 0
DueTransfersCanBegin = (v : ProcessView) (wish : Wish) → CanBegin v → due v.pool ≡ Some wish → CanBeginWish v wish

-- what the own step of a call makes of the plan
abbrev pub plan_after : Option Call → schedule.Numbers → schedule.Numbers
plan_after None plan = plan
plan_after (Some Allocate) plan = schedule.after_took_one plan
plan_after (Some (Free block)) plan = schedule.after_gave_one plan
plan_after (Some (Read block index)) plan = plan
plan_after (Some (Write block index value)) plan = plan
plan_after (Some Search) plan = schedule.after_took_one plan

-- an own step is one of the schedule
abbrev pub OwnStepsAreThePlans : Type 0
OwnStepsAreThePlans = (v : ProcessView) (word : ℕ) → (own_met v word).pool.plan ≡ plan_after v.calls.call v.pool.plan

-- the plan has the shape's sizes at the opening
abbrev pub OpeningFits : Type 0
OpeningFits = (sizes : Sizes) (process : ℕ) → PlanFits sizes (opening_view sizes process).pool.plan

-- a call that begins keeps them
abbrev pub BeginningsKeepSizes : Type 0
BeginningsKeepSizes =
    (sizes : Sizes) (call : Call) (v : ProcessView) → PlanFits sizes v.pool.plan → PlanFits sizes (call_begun call v).pool.plan

-- and so does each step
abbrev pub StepsKeepSizes : Type 0
StepsKeepSizes =
    (sizes : Sizes) (v : ProcessView) (word : ℕ) → PlanFits sizes v.pool.plan → PlanFits sizes (call_met sizes v word).pool.plan

-- the first n steps of a call: the view before each of them, and the words that they meet
pub record CallSteps (sizes : Sizes) (call : Call) (n : ℕ) (views : ℕ → ProcessView) (words : ℕ → ℕ) : Type 0 where
  pub before : ProcessView
  pub begins : views 0 ≡ call_begun call before
  pub inside : (k : ℕ) → k < n → (views k).calls.stage ≢ Between
  pub each : (k : ℕ) → k < n → views (k + 1) ≡ call_met sizes (views k) (words k)

-- how many transfer steps a call makes at most
abbrev pub most_moves : Sizes → Call → ℕ
most_moves sizes Allocate = sizes.quantum
most_moves sizes (Free block) = sizes.quantum
most_moves sizes (Read block index) = 0
most_moves sizes (Write block index value) = 0
most_moves sizes Search = 2 * transfer_bound sizes

-- a call but a search takes at most so many steps and its own one, whatever words it meets
abbrev pub CallsEnd : Type 0
CallsEnd =
    (sizes : Sizes) (call : Call) (n : ℕ) (views : ℕ → ProcessView) (words : ℕ → ℕ)
    → 1 ≤ sizes.quantum
    → is_paced (Some call) ≡ true
    → CallSteps sizes call n views words
    → n ≤ most_moves sizes call + 1
