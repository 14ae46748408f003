-- a running transfer: what its steps make of it and of the seat, and how it is answered
use Rattle.std.specs.Prelude.{◌≡◌, ◌≢◌, ℕ, ◌+◌, ◌≤◌, Bool, true, false, Option, Some}
use Rattle.word_layout.specs.Sizes.{Sizes, transfer_bound}
use Rattle.word_layout.specs.declared.announced.Wish.{Wish}
use Rattle.word_layout.specs.declared.reply.Reply.{Reply}
use Rattle.word_layout.specs.declared.reply.Reply.TheVariants as reply
use Rattle.transfer_machine.specs.Machine.{met_of, begun}
use Rattle.transfer_machine.specs.Opening.{opening_transfer}
use Rattle.transfer_machine.specs.Stages.{is_rest}
use Rattle.transfer_machine.specs.declared.stage.NextStep.{NextStep}
use Rattle.transfer_machine.specs.declared.stage.NextStep.TheVariants.{Rest, Announce, Try, LoadFinalState, LoadReply}
use Rattle.transfer_machine.specs.declared.stage.TryStep.{TryStep}
use Rattle.transfer_machine.specs.declared.transfer.TransferView.{TransferView}
use Rattle.pool_machine.specs.declared.call.Call.{Call}
use Rattle.pool_machine.specs.declared.call.CallStage.TheVariants.{Between, Moving, Own}
use Rattle.call_invariant.specs.Phases.{changes_pool}
use Rattle.pool_invariant.specs.StepCount.{steps_before}
use Rattle.pool_table.specs.declared.about.About.{About}
use Rattle.pool_table.specs.declared.about.About.TheVariants.{Alone, InCall}
use Rattle.pool_table.specs.Views.{SeatView}
use Rattle.pool_table.specs.Steps.{CanStep, Stepped}
use Rattle.pool_table.specs.Transfers.{Agrees, about_of}
use Rattle.batch_stack.specs.declared.progress.Progress.{Progress}
use Rattle.batch_stack.specs.declared.progress.Progress.TheVariants.{Going, Took, Empty, Gave}

-- what clauses see of it: the shape's numbers, and the machine's part of a transfer
pub record Running : Type 0 where
  pub sizes : Sizes
  pub part : TransferView

-- at the opening none is begun
abbrev pub opened : Sizes → ℕ → Running
opened sizes process = record { sizes = sizes; part = opening_transfer process }

-- one with this wish is begun
abbrev pub wishing : Wish → Running → Running
wishing wish t = record t { part = begun wish t.part }

-- how a transfer ends that was answered so
abbrev pub ended_as : Reply → Progress
ended_as reply.Nothing = Empty
ended_as (reply.Took head) = Took head
ended_as reply.Gave = Gave

-- how far a transfer is after its step at that stage, with this answer: only the load of the reply ends it
abbrev pub progress_at : NextStep → Reply → Progress
progress_at Rest answer = Going
progress_at Announce answer = Going
progress_at (Try second step) answer = Going
progress_at LoadFinalState answer = Going
progress_at LoadReply answer = ended_as answer

-- what its next step is about: the call that is given, or else a transfer alone with its wish
abbrev pub step_about : Option Call → Running → About
step_about call t = about_of call t.part.wish

-- the next step of a transfer is this one of one of its tries
abbrev pub IsInTry : TransferView → TryStep → Type 0
IsInTry t step = (second : Bool) × (t.next ≡ Try second step)

-- the seat and its transfer made the machine's next step together, on this word, and the answer is by the reply that it leaves
pub record MadeStepOn (sizes : Sizes) (about : About) (v : SeatView) (t : TransferView) (x : SeatView) (u : TransferView)
    (answer : Progress) (word : ℕ) : Type 0 where
  pub stepped : Stepped about v word x
  pub part : u ≡ met_of sizes t word
  pub mirrors : x.mind.view.transfer ≡ u
  pub answered : answer ≡ progress_at t.next u.answer

-- they did, on some word
abbrev pub MadeStep : Sizes → About → SeatView → TransferView → SeatView → TransferView → Progress → Type 0
MadeStep sizes about v t x u answer = (word : ℕ) × MadeStepOn sizes about v t x u answer word

-- at most so many steps of a transfer are made before its next one: the bound has room for that one, and where it goes on the number rises
pub record ComesNearer (sizes : Sizes) (t u : TransferView) (answer : Progress) : Type 0 where
  pub left : steps_before sizes t + 1 ≤ transfer_bound sizes
  pub nearer : answer ≡ Going → steps_before sizes t + 1 ≤ steps_before sizes u

-- a transfer in a call that has another step: its process may make that step in this call, until the call has made a quantum of them; after
-- the call's own step it may make it in the next call that makes steps of transfers
pub record GoesOnInCalls (sizes : Sizes) (call : Call) (x : SeatView) (u : TransferView) : Type 0 where
  pub now : x.mind.view.calls.stage ≡ Moving → CanStep sizes (InCall call) x × Agrees (InCall call) x u
  pub quantum : x.mind.view.calls.stage ≢ Moving → (x.mind.view.calls.stage ≡ Own) × (x.mind.view.calls.steps ≡ sizes.quantum)
  pub later : (y : SeatView) (next : Call) → y.mind.view.calls.stage ≡ Between → y.mind.view.transfer ≡ u → changes_pool (Some next) ≡ true
      → CanStep sizes (InCall next) y → Agrees (InCall next) y u

-- one outside any call: its process may make that step, whatever wish it is said to begin with
pub record GoesOnAlone (sizes : Sizes) (x : SeatView) (u : TransferView) : Type 0 where
  pub busy : is_rest u.next ≡ false
  pub goes : (next : Wish) → CanStep sizes (Alone next) x × Agrees (Alone next) x u

-- a transfer that has another step goes on
abbrev pub GoesOn : Sizes → About → SeatView → TransferView → Type 0
GoesOn sizes (Alone wish) x u = GoesOnAlone sizes x u
GoesOn sizes (InCall call) x u = GoesOnInCalls sizes call x u
