-- The schedule of one process: an account is its plan, its phase and its entries, and each step leads from one account to the next.
use Rattle.std.specs.Prelude.{◌≡◌, ◌≢◌, ℕ, ◌+◌, ◌<◌, ◌≤◌, ◌==◌, Bool, true, false, if◌then◌else◌}
use Rattle.transfer_schedule.specs.declared.own_step.Source.TheVariants.{Nothing}
use Rattle.transfer_schedule.specs.declared.pending.Pending.TheVariants.{Taking, Giving}
use Rattle.transfer_schedule.specs.Numbers.{Numbers, AreSizes, is_idle, is_taking, is_giving, opening, after_begin, after_choice}
use Rattle.transfer_schedule.specs.Numbers.{after_steps, after_end, after_took_one, after_gave_one, after_shelved, source_of}

-- where a process stands in its calls
pub data CallPhase : Type 0 where
  -- between two calls; in an allocate or a free that has made so many transfer steps; before its own step
  Between : CallPhase
  Moving : ℕ → CallPhase
  Own : CallPhase
  -- in a search: at a transfer that it began itself (true) or met; with the met one ended and nothing chosen yet; before its own step
  Seeking : Bool → CallPhase
  Choosing : CallPhase
  Sought : CallPhase
  -- in a retire: at the transfer that it met; with nothing pending; at a give of its own
  Leaving : CallPhase
  Clearing : CallPhase
  Shedding : CallPhase
  -- at rest
  Resting : CallPhase
  -- in an enlist: with its entry made; at its take
  Joining : CallPhase
  Returning : CallPhase

-- a plan and the entries of its process, which move together
pub record Account : Type 0 where
  pub plan : Numbers
  pub phase : CallPhase
  -- the own entries, one for each call that made one, and how many of them are Got and Back
  pub entries : ℕ
  pub gots : ℕ
  pub backs : ℕ
  -- the own entries when the last transfer began, and when the last ended take began
  pub begun : ℕ
  pub ended : ℕ
  -- the process never retired
  pub unbroken : Bool

-- the account of a process at the opening of its pool
abbrev pub opened : ℕ → ℕ → ℕ → Account
opened length bound quantum = record {
  plan = opening length bound quantum;
  phase = Between;
  entries = 0;
  gots = 0;
  backs = 0;
  begun = 0;
  ended = 0;
  unbroken = true;
}

-- where a call stands when it has made one transfer step more
abbrev pub after_move : ℕ → ℕ → CallPhase
after_move quantum made = if made + 1 == quantum then Own else Moving (made + 1)

-- whether the next step of a process in this phase is one of a transfer
abbrev pub moves_in : CallPhase → Bool
moves_in Between = false
moves_in (Moving made) = true
moves_in Own = false
moves_in (Seeking chosen) = true
moves_in Choosing = false
moves_in Sought = false
moves_in Leaving = true
moves_in Clearing = false
moves_in Shedding = true
moves_in Resting = false
moves_in Joining = false
moves_in Returning = true

-- where a call stands after a step of the transfer that goes on: an allocate or a free counts the steps of its quantum
abbrev pub stepped_in : ℕ → CallPhase → CallPhase
stepped_in quantum (Moving made) = after_move quantum made
stepped_in quantum phase = phase

-- where a call stands after the last step of the transfer
abbrev pub ended_in : CallPhase → CallPhase
ended_in Between = Between
ended_in (Moving made) = Own
ended_in Own = Own
ended_in (Seeking true) = Sought
ended_in (Seeking false) = Choosing
ended_in Choosing = Choosing
ended_in Sought = Sought
ended_in Leaving = Clearing
ended_in Clearing = Clearing
ended_in Shedding = Clearing
ended_in Resting = Resting
ended_in Joining = Joining
ended_in Returning = Between

-- whether an allocate or a search is before its own step, in which it asks for a block
abbrev pub asks_in : CallPhase → Bool
asks_in Own = true
asks_in Sought = true
asks_in phase = false

-- whether a search may choose there: as it begins with nothing pending, or once the transfer that it met has ended
abbrev pub chooses_in : CallPhase → Bool
chooses_in Between = true
chooses_in Choosing = true
chooses_in phase = false

-- the account after a step of the transfer that goes on
abbrev pub stepped : Account → Account
stepped a = record a { plan = after_steps 1 a.plan; phase = stepped_in a.plan.quantum a.phase }

-- the entries when the last ended take began, once the pending transfer has ended
abbrev pub last_take : Account → ℕ
last_take a = if is_taking a.plan.pending then a.begun else a.ended

-- the account after the last step of the transfer
abbrev pub ended_with : Bool → Account → Account
ended_with found a =
    record a { plan = after_end found (after_steps 1 a.plan); phase = ended_in a.phase; ended = last_take a }

-- the account after an allocate or a search that was given a block
abbrev pub got_one : Account → Account
got_one a = record a { plan = after_took_one a.plan; phase = Between; entries = a.entries + 1; gots = a.gots + 1 }

-- the account after an allocate or a search that was refused
abbrev pub got_none : Account → Account
got_none a = record a { plan = after_took_one a.plan; phase = Between; entries = a.entries + 1 }

-- the account after a free
abbrev pub gave_back : Account → Account
gave_back a = record a { plan = after_gave_one a.plan; phase = Between; entries = a.entries + 1; backs = a.backs + 1 }

-- the account of a search that has chosen, by whether no transfer is due
abbrev pub sought_by : Bool → Account → Account
sought_by true a = record a { plan = after_choice a.plan; phase = Sought }
sought_by false a = record a { plan = after_choice a.plan; phase = Seeking true; begun = a.entries }

-- a search with nothing pending chooses: it begins the transfer that is due, if any
abbrev pub after_seek : Account → Account
after_seek a = sought_by (is_idle (after_choice a.plan).pending) a

-- the account once the entry that ends a retire is made
abbrev pub retired : Account → Account
retired a = record a { phase = Resting; entries = a.entries + 1; unbroken = false }

-- the account once the entry that begins an enlist is made
abbrev pub enlisted : Account → Account
enlisted a = record a { phase = Joining; entries = a.entries + 1 }

-- one step of the schedule leads from the account to the next
pub data Follows (a : Account) : Account → Type 0 where
  -- an allocate or a free begins, and a transfer with it
  begins : a.phase ≡ Between → is_idle a.plan.pending ≡ true → is_idle (after_choice a.plan).pending ≡ false
      → Follows a (record a { plan = after_choice a.plan; phase = Moving 0; begun = a.entries })
  -- it begins while a transfer is pending
  continues : a.phase ≡ Between → is_idle a.plan.pending ≡ false
      → Follows a (record a { plan = after_choice a.plan; phase = Moving 0 })
  -- it begins, and nothing is pending in it
  idles : a.phase ≡ Between → is_idle (after_choice a.plan).pending ≡ true
      → Follows a (record a { plan = after_choice a.plan; phase = Own })
  -- a step of a transfer, which goes on
  moves : moves_in a.phase ≡ true → a.plan.done + 1 < a.plan.bound → Follows a (stepped a)
  -- the last step of a transfer
  ends : (found : Bool)
      → moves_in a.phase ≡ true → a.plan.done + 1 ≤ a.plan.bound → (is_giving a.plan.pending ≡ true → found ≡ true)
      → Follows a (ended_with found a)
  -- an `allocate` or a search is given a block
  gets : asks_in a.phase ≡ true → source_of a.plan ≢ Nothing → Follows a (got_one a)
  -- or refused
  refuses : asks_in a.phase ≡ true → source_of a.plan ≡ Nothing → Follows a (got_none a)
  -- a `free` gives a held block back
  frees : a.phase ≡ Own → (a.unbroken ≡ true → a.backs < a.gots) → Follows a (gave_back a)
  -- a search begins while a transfer is pending
  meets : a.phase ≡ Between → is_idle a.plan.pending ≡ false → Follows a (record a { phase = Seeking false })
  -- with nothing pending it begins the transfer that is due, if any
  seeks : chooses_in a.phase ≡ true → is_idle a.plan.pending ≡ true → Follows a (after_seek a)
  -- a retire begins while a transfer is pending
  quits : a.phase ≡ Between → is_idle a.plan.pending ≡ false → Follows a (record a { phase = Leaving })
  -- or with none
  clears : a.phase ≡ Between → is_idle a.plan.pending ≡ true → Follows a (record a { phase = Clearing })
  -- it gives a spare
  gives : a.phase ≡ Clearing → 0 < a.plan.spares
      → Follows a (record a { plan = after_begin Giving a.plan; phase = Shedding; begun = a.entries })
  -- its full current list becomes its last spare
  shelves : a.phase ≡ Clearing → a.plan.spares ≡ 0 → a.plan.current ≡ a.plan.length
      → Follows a (record a { plan = after_shelved a.plan })
  -- with no spare and a shorter list it ends: the process rests
  retires : a.phase ≡ Clearing → a.plan.spares ≡ 0 → a.plan.current < a.plan.length → Follows a (retired a)
  -- an enlist begins
  enlists : a.phase ≡ Resting → Follows a (enlisted a)
  -- and takes a batch
  retakes : a.phase ≡ Joining
      → Follows a (record a { plan = after_begin Taking a.plan; phase = Returning; begun = a.entries })

-- the account is reached from the opening by steps of the schedule
pub data Reached (length bound quantum : ℕ) : Account → Type 0 where
  opens : Reached length bound quantum (opened length bound quantum)
  follows : {a b : Account} → Reached length bound quantum a → Follows a b → Reached length bound quantum b

-- a fact of every account that is reached at sizes which fit
abbrev pub EveryReached : (Account → Type 0) → Type 0
EveryReached Fact = (length bound quantum : ℕ) (a : Account)
    → AreSizes length bound quantum
    → Reached length bound quantum a
    → Fact a
