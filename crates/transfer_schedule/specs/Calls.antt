-- Lists of calls as a plan sees them, and the moments of a call.
use Rattle.std.specs.Prelude.{◌≡◌, ◌≢◌, ℕ, ◌+◌, ◌<◌, ◌≤◌, Bool, IsTrue, false, Option, None, Some, List, [], ◌∷◌, ◌++◌, length, take, fold}
use Rattle.std.specs.Prelude.{slice_get}
use Rattle.transfer_schedule.specs.declared.pending.Pending.TheVariants.{Idle, Taking, Giving}
use Rattle.transfer_schedule.specs.declared.own_step.Source.TheVariants.{Nothing}
use Rattle.transfer_schedule.specs.declared.call.OwnStep.{OwnStep}
use Rattle.transfer_schedule.specs.declared.call.OwnStep.TheVariants.{Allocate, Free}
use Rattle.transfer_schedule.specs.declared.call.PlannedCall.{PlannedCall}
use Rattle.transfer_schedule.specs.declared.call.PlannedAnswer.{PlannedAnswer}
use Rattle.transfer_schedule.specs.declared.call.PlannedAnswer.TheVariants.{Took, Gave}
use Rattle.transfer_schedule.specs.Numbers.{Numbers, after_choice, after_steps, after_end, after_took_one, after_gave_one, source_of}
use Rattle.transfer_schedule.specs.Numbers.{target_of}

-- the transfer ends in the call, or goes on
abbrev pub after_transfer : Option Bool → Numbers → Numbers
after_transfer None x = x
after_transfer (Some found) x = after_end found x

-- the numbers before the own step of a call
abbrev pub ready_for : PlannedCall → Numbers → Numbers
ready_for call x = after_transfer call.end (after_steps call.steps (after_choice x))

-- the own step
abbrev pub after_own : OwnStep → Numbers → Numbers
after_own Allocate x = after_took_one x
after_own Free x = after_gave_one x

-- the numbers after a call
abbrev pub after_call : Numbers → PlannedCall → Numbers
after_call x call = after_own call.own (ready_for call x)

-- what the own step meets
abbrev pub own_answer : OwnStep → Numbers → PlannedAnswer
own_answer Allocate x = Took (source_of x)
own_answer Free x = Gave (target_of x)

-- the numbers after a list of calls
abbrev pub after_calls : List PlannedCall → Numbers → Numbers
after_calls calls x = fold after_call x calls

-- a call is made as the schedule says: without a transfer no step; else a quantum of steps, or fewer where the transfer ends;
-- it has ended when it has made its most steps
pub record Fits (call : PlannedCall) (x : Numbers) : Type 0 where
  pub idle_steps : (after_choice x).pending ≡ Idle → call.steps ≡ 0
  pub idle_end : (after_choice x).pending ≡ Idle → call.end ≡ None
  pub few : call.steps ≤ x.quantum
  pub within : (after_choice x).done + call.steps ≤ x.bound
  pub whole : (after_choice x).pending ≢ Idle → call.end ≡ None → call.steps ≡ x.quantum
  pub under : (after_choice x).pending ≢ Idle → call.end ≡ None → (after_choice x).done + call.steps < x.bound
  pub give : (after_choice x).pending ≡ Giving → call.end ≢ Some false

-- each call of the list is made as the schedule says, of the numbers that those before it leave
abbrev pub FitAll : List PlannedCall → Numbers → Type 0
FitAll calls x = (k : ℕ) (call : PlannedCall) → slice_get calls k ≡ Some call → Fits call (after_calls (take k calls) x)

-- one of the calls number k + 1 to k + n leaves nothing pending
pub record LeavesIdle (k n : ℕ) (calls : List PlannedCall) (x : Numbers) : Type 0 where
  pub place : ℕ
  pub after : k < place
  pub within : place ≤ k + n
  pub idle : (after_calls (take place calls) x).pending ≡ Idle

-- of any n calls in a row, one leaves nothing pending: a transfer that the first of them begins has ended with the last
abbrev pub EndWithin : ℕ → List PlannedCall → Numbers → Type 0
EndWithin n calls x = (k : ℕ) → k + n ≤ length calls → LeavesIdle k n calls x

-- the last of the calls ended a take that found nothing
pub record EndsEmpty (calls : List PlannedCall) (x : Numbers) : Type 0 where
  pub early : List PlannedCall
  pub last : PlannedCall
  pub split : calls ≡ early ++ last ∷ []
  pub take : (after_choice (after_calls early x)).pending ≡ Taking
  pub empty : last.end ≡ Some false

-- y are the numbers x between two calls, or at a moment of the next call up to its own step
pub data IsMoment (x : Numbers) : Numbers → Type 0 where
  between : IsMoment x x
  moving : (steps : ℕ) → (after_choice x).pending ≢ Idle → steps ≤ x.quantum → (after_choice x).done + steps ≤ x.bound
      → IsMoment x (after_steps steps (after_choice x))
  ready : (call : PlannedCall) → Fits call x → IsMoment x (ready_for call x)

-- a fact of the numbers at each of these moments
abbrev pub EachMoment : (Numbers → Type 0) → Numbers → Type 0
EachMoment Fact x = (y : Numbers) → IsMoment x y → Fact y

-- the next call finds no block only where the last ended take found no batch
abbrev pub RefusesOnlyDry : Numbers → Type 0
RefusesOnlyDry x = (call : PlannedCall) → Fits call x → source_of (ready_for call x) ≡ Nothing → IsTrue (ready_for call x).dry
