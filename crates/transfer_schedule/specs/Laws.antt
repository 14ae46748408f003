-- what holds of every account that the schedule reaches
use Rattle.std.specs.Prelude.{◌≡◌, ◌≢◌, ℕ, ◌+◌, ◌-◌, ◌*◌, ◌<◌, ◌≤◌, Bool, true, false, if◌then◌else◌}
use Rattle.transfer_schedule.specs.declared.pending.Pending.TheVariants.{Idle, Taking, Giving}
use Rattle.transfer_schedule.specs.declared.own_step.Source.TheVariants.{Nothing}
use Rattle.transfer_schedule.specs.Numbers.{Numbers, is_idle, after_choice, source_of, stock, kept, withheld}
use Rattle.transfer_schedule.specs.Account.{Account, CallPhase, Between, Moving, Own, Seeking, Choosing, Sought}
use Rattle.transfer_schedule.specs.Account.{Leaving, Clearing, Shedding, Resting, Joining, Returning, moves_in}

-- the plan has the sizes of its opening
abbrev pub HasSizes : ℕ → ℕ → ℕ → Numbers → Type 0
HasSizes length bound quantum x = (x.length ≡ length) × (x.bound ≡ bound) × (x.quantum ≡ quantum)

-- with nothing pending at most four batches are kept
abbrev pub RestsWithFour : Numbers → Type 0
RestsWithFour x = x.pending ≡ Idle → kept x ≤ 4 * x.length

-- at most five batches are withheld, the one in transit included
abbrev pub WithholdsFive : Numbers → Type 0
WithholdsFive x = withheld x ≤ 5 * x.length

-- whether a process keeps its pool in stock: between two calls, and in one that is no retire and no enlist
abbrev pub serves : CallPhase → Bool
serves Between = true
serves (Moving made) = true
serves Own = true
serves (Seeking chosen) = true
serves Choosing = true
serves Sought = true
serves Leaving = false
serves Clearing = false
serves Shedding = false
serves Resting = false
serves Joining = false
serves Returning = false

-- nothing is pending, and less than a batch is kept
pub record IsCleared (a : Account) : Type 0 where
  pub idle : a.plan.pending ≡ Idle
  pub none : a.plan.spares ≡ 0
  pub few : a.plan.current < a.plan.length

-- a process is retired, up to its next take
abbrev pub is_at_rest : CallPhase → Bool
is_at_rest Resting = true
is_at_rest Joining = true
is_at_rest phase = false

-- so does a process rest
abbrev pub RestsCleared : Account → Type 0
RestsCleared a = is_at_rest a.phase ≡ true → IsCleared a

-- the own entries since the pending transfer began
abbrev pub since : Account → ℕ
since a = if is_idle a.plan.pending then 0 else a.entries - a.begun

-- what a process knows of its own pool: how many blocks it keeps and holds, and why it keeps few
pub record IsSound (a : Account) : Type 0 where
  pub net : a.unbroken ≡ true → 2 * a.plan.length + a.backs ≤ kept a.plan + a.gots
  pub net_giving : a.unbroken ≡ true → a.plan.pending ≡ Giving → 3 * a.plan.length + a.backs ≤ kept a.plan + a.gots
  pub dry : kept a.plan < a.plan.length - 1 - since a → a.plan.dry ≡ true
  pub recent : kept a.plan < a.plan.length - 1 - since a
      → (if is_idle a.plan.pending then a.entries else a.begun) ≤ a.ended + a.plan.length

-- a process knows so while it serves
abbrev pub SoundWhileServing : Account → Type 0
SoundWhileServing a = serves a.phase ≡ true → IsSound a

-- a pending transfer is in its first `length` calls
abbrev pub EndsInTime : Account → Type 0
EndsInTime a = a.plan.pending ≢ Idle → a.entries < a.begun + a.plan.length

-- while a give is pending a process that serves has more than a batch left besides
abbrev pub GivesLeaveBatch : Account → Type 0
GivesLeaveBatch a = serves a.phase ≡ true → a.plan.pending ≡ Giving → a.plan.length < stock a.plan

-- between two calls a pending transfer has made a step
abbrev pub WaitsAnnounced : Account → Type 0
WaitsAnnounced a = a.phase ≡ Between → a.plan.pending ≢ Idle → 1 ≤ a.plan.done

-- a transfer that moves and has made no step began after the last entry
abbrev pub JustBegun : Account → Type 0
JustBegun a = moves_in a.phase ≡ true → a.plan.done ≡ 0 → a.entries ≡ a.begun

-- in each phase in which a transfer moves one is pending
abbrev pub PendsWhileMoving : Account → Type 0
PendsWhileMoving a = moves_in a.phase ≡ true → is_idle a.plan.pending ≡ false

-- nothing is pending in these phases: a search chooses, a retire clears, or the process rests
abbrev pub is_still : CallPhase → Bool
is_still Choosing = true
is_still Clearing = true
is_still phase = is_at_rest phase

-- so nothing is pending there
abbrev pub IdlesWhileStill : Account → Type 0
IdlesWhileStill a = is_still a.phase ≡ true → is_idle a.plan.pending ≡ true

-- in its transfer steps a call has a transfer pending, which has made a whole quantum in each call before
pub record CountsSteps (a : Account) : Type 0 where
  pub pending : (made : ℕ) → a.phase ≡ Moving made → a.plan.pending ≢ Idle
  pub few : (made : ℕ) → a.phase ≡ Moving made → made < a.plan.quantum
  pub done : (made : ℕ) → a.phase ≡ Moving made → a.plan.done ≡ a.plan.quantum * (a.entries - a.begun) + made

-- the last ended take found nothing, and it began at most n entries ago
pub record FoundNothing (n : ℕ) (a : Account) : Type 0 where
  pub dry : a.plan.dry ≡ true
  pub recent : a.entries ≤ a.ended + n

-- a take begins with fewer than length - 1 blocks only where the last ended take found nothing and began within the last `length` entries
abbrev pub BeginsShort : Account → Type 0
BeginsShort a =
    a.phase ≡ Between → a.plan.pending ≡ Idle → (after_choice a.plan).pending ≡ Taking → stock a.plan < a.plan.length - 1
    → FoundNothing a.plan.length a

-- an `allocate` finds no block only where the last ended take found nothing and began within the last 2 * length - 2 entries
abbrev pub RefusesSoon : Account → Type 0
RefusesSoon a = a.phase ≡ Own → source_of a.plan ≡ Nothing → FoundNothing (2 * a.plan.length - 2) a

-- a search finds no block only where its own take found nothing, which it began after the last entry
abbrev pub MissesNow : Account → Type 0
MissesNow a = a.phase ≡ Sought → source_of a.plan ≡ Nothing → FoundNothing 0 a
