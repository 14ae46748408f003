-- laws that the machine moves, over every run: what a process may begin it begins, and a call that has begun is answered
use Rattle.std.specs.Prelude.{◌≡◌, ◌≢◌, ℕ, ◌+◌, ◌<◌, ◌≤◌, ◌==◌, Bool, true, false, ◌&&◌, ◌||◌, if◌then◌else◌, List, [], ◌∷◌}
use Rattle.word_layout.specs.Sizes.{Sizes}
use Rattle.word_layout.specs.Packing.{most_age}
use Rattle.word_layout.specs.declared.announced.Wish.TheVariants.{Take, Give}
use Rattle.pool_machine.specs.declared.call.Call.{Call}
use Rattle.pool_machine.specs.declared.call.Call.TheVariants.{Allocate, Free, Read, Write}
use Rattle.pool_machine.specs.declared.call.CallStage.TheVariants.{Between}
use Rattle.transfer_machine.specs.declared.stage.NextStep.TheVariants.{Rest}
use Rattle.pool_machine.specs.Beginning.{newest}
use Rattle.pool_machine.specs.declared.call.Way.TheVariants.{Alone, Calls}
use Rattle.pool_machine.specs.Conditions.{IsYoungFor}
use Rattle.pool_machine.specs.Laws.{most_moves}
use Rattle.interleaving_core.specs.CallLaws.{answers_call, EveryRun}
use Rattle.interleaving_core.specs.Moves.{CoreState, view_at, holder_of, is_holder}
use Rattle.interleaving_core.specs.Runs.{Turn, Moves, Events, is_made, after_turn, turn_answer}

-- a process stands between two calls, and makes calls or hasn't begun anything
pub record StandsBetween (sizes : Sizes) (i : ℕ) (s : CoreState) : Type 0 where
  pub low : i < sizes.processes
  pub between : (view_at s i).calls.stage ≡ Between
  pub way : (view_at s i).calls.way ≢ Alone

-- there it begins an allocate while it has the age for it
abbrev pub AllocatesBegin : Type 0
AllocatesBegin = EveryRun (λ sizes history s. (i : ℕ) → StandsBetween sizes i s → IsYoungFor sizes Allocate (view_at s i)
    → is_made (Events i Allocate) s ≡ true)

-- and so a free of each block that it holds
abbrev pub FreesBegin : Type 0
FreesBegin = EveryRun (λ sizes history s. (i block : ℕ) → StandsBetween sizes i s → IsYoungFor sizes (Free block) (view_at s i)
    → is_holder i (holder_of s block) ≡ true
    → is_made (Events i (Free block)) s ≡ true)

-- a read and a write of such a block it begins at any age
abbrev pub ReadsBegin : Type 0
ReadsBegin = EveryRun (λ sizes history s. (i block index : ℕ) → StandsBetween sizes i s → is_holder i (holder_of s block) ≡ true
    → index < sizes.words → is_made (Events i (Read block index)) s ≡ true)

-- where a write may begin, its turn begins it
abbrev pub WritesBegin : Type 0
WritesBegin = EveryRun (λ sizes history s. (i block index value : ℕ) → StandsBetween sizes i s → is_holder i (holder_of s block) ≡ true
    → index < sizes.words → is_made (Events i (Write block index value)) s ≡ true)

-- a process is in no transfer, and makes transfers alone or hasn't begun anything
pub record StandsAtRest (sizes : Sizes) (i : ℕ) (s : CoreState) : Type 0 where
  pub low : i < sizes.processes
  pub rest : (view_at s i).transfer.next ≡ Rest
  pub way : (view_at s i).calls.way ≢ Calls
  pub young : (view_at s i).transfer.age < most_age sizes

-- there it begins a take with at most one spare, and a give of its newest spare where it has one
abbrev pub TakesBegin : Type 0
TakesBegin = EveryRun (λ sizes history s. (i : ℕ) → StandsAtRest sizes i s → (view_at s i).pool.plan.spares ≤ 1
    → is_made (Moves i Take) s ≡ true)

-- where a give alone may begin, its turn begins it
abbrev pub GivesBegin : Type 0
GivesBegin = EveryRun (λ sizes history s. (i : ℕ) → StandsAtRest sizes i s → 1 ≤ (view_at s i).pool.plan.spares
    → is_made (Moves i (Give (newest (view_at s i).pool))) s ≡ true)

-- whether a turn is one of process i in its calls
abbrev pub is_event_of : ℕ → Turn → Bool
is_event_of i (Moves by wish) = false
is_event_of i (Events by call) = by == i

-- how many of these turns are
unfoldable pub events_of : ℕ → List Turn → ℕ
events_of i [] = 0
events_of i (turn ∷ more) = (if is_event_of i turn then 1 else 0) + events_of i more

-- whether a call of process i is answered in one of these turns, made from that state on
unfoldable pub is_answered : ℕ → List Turn → CoreState → Bool
is_answered i [] s = false
is_answered i (turn ∷ more) s = (is_event_of i turn && answers_call (turn_answer turn s)) || is_answered i more (after_turn turn s)

-- a call that begins is answered in any turns that have enough of its process's: one more than its most steps of a transfer
abbrev pub CallsAreAnswered : Type 0
CallsAreAnswered = EveryRun (λ sizes history s. (i : ℕ) (call : Call) (more : List Turn) → (view_at s i).calls.stage ≡ Between
    → is_made (Events i call) s ≡ true
    → most_moves sizes call + 1 ≤ events_of i (Events i call ∷ more)
    → is_answered i (Events i call ∷ more) s ≡ true)
