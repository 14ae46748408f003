-- The numbers of a private pool, and what the schedule does to them.
use Rattle.std.specs.Prelude.{◌≡◌, ℕ, ◌+◌, ◌-◌, ◌*◌, ◌^◌, ◌≤◌, Bool, true, false, if◌then◌else◌, nat_lt, min, not}
use Rattle.transfer_schedule.specs.declared.pending.Pending.{Pending}
use Rattle.transfer_schedule.specs.declared.pending.Pending.TheVariants.{Idle, Taking, Giving}
use Rattle.transfer_schedule.specs.Beginning.{due_with}
use Rattle.transfer_schedule.specs.declared.own_step.Source.{Source}
use Rattle.transfer_schedule.specs.declared.own_step.Target.{Target}
use Rattle.transfer_schedule.specs.declared.own_step.Source.TheVariants as source
use Rattle.transfer_schedule.specs.declared.own_step.Target.TheVariants as target

-- the numbers of a private pool: three sizes that stay, and five numbers that its calls change
pub record Numbers : Type 0 where
  pub length : ℕ
  pub bound : ℕ
  pub quantum : ℕ
  pub current : ℕ
  pub spares : ℕ
  pub pending : Pending
  pub done : ℕ
  pub dry : Bool

-- nothing is pending
abbrev pub is_idle : Pending → Bool
is_idle Idle = true
is_idle Taking = false
is_idle Giving = false

-- a take is pending
abbrev pub is_taking : Pending → Bool
is_taking Idle = false
is_taking Taking = true
is_taking Giving = false

-- a give is pending
abbrev pub is_giving : Pending → Bool
is_giving Idle = false
is_giving Taking = false
is_giving Giving = true

-- the sizes of a schedule: a batch has two blocks at least, and a transfer of at most `bound` steps ends within `length` calls
-- of `quantum` steps
pub record AreSizes (length bound quantum : ℕ) : Type 0 where
  pub long : 2 ≤ length
  pub some : 1 ≤ bound
  pub soon : bound ≤ quantum * length

-- what every plan keeps: its sizes fit, its current list is at most a batch, and steps are counted only of a pending transfer
pub record IsPlan (x : Numbers) : Type 0 where
  pub sizes : AreSizes x.length x.bound x.quantum
  pub room : x.current ≤ x.length
  pub idle : is_idle x.pending ≡ true → x.done ≡ 0
  pub within : x.done ≤ x.bound

-- one more, as far as a number of 32 bits goes
unfoldable pub one_more : ℕ → ℕ
one_more n = min (n + 1) (2 ^ 32 - 1)

-- the numbers at the opening of a pool: a full current list and one spare
abbrev pub opening : ℕ → ℕ → ℕ → Numbers
opening length bound quantum = record {
  length = length;
  bound = bound;
  quantum = quantum;
  current = length;
  spares = 1;
  pending = Idle;
  done = 0;
  dry = false;
}

-- a transfer begins: the batch of a give leaves the spares at once
abbrev pub after_begin : Pending → Numbers → Numbers
after_begin Idle x = x
after_begin Taking x = record x { pending = Taking; done = 0 }
after_begin Giving x = record x { pending = Giving; done = 0; spares = x.spares - 1 }

-- the transfer that is due as a call begins: none where one is pending
abbrev pub due : Numbers → Pending
due x = if is_idle x.pending then due_with x.spares else Idle

-- a call begins, and the transfer that is due with it
abbrev pub after_choice : Numbers → Numbers
after_choice x = after_begin (due x) x

-- so many transfer steps were made
abbrev pub after_steps : ℕ → Numbers → Numbers
after_steps steps x = record x { done = x.done + steps }

-- the pending take ends: where it found a batch, that is a spare
abbrev pub after_take : Bool → Numbers → Numbers
after_take found x = record x {
  pending = Idle;
  done = 0;
  spares = if found then one_more x.spares else x.spares;
  dry = not found;
}

-- the pending transfer ends
abbrev pub after_end : Bool → Numbers → Numbers
after_end found x = if is_taking x.pending then after_take found x else record x { pending = Idle; done = 0 }

-- the block of an `allocate` leaves: from the current list, or from the newest spare where that list is empty
abbrev pub after_took_one : Numbers → Numbers
after_took_one x =
    if nat_lt 0 x.current then record x { current = x.current - 1 }
    else (if nat_lt 0 x.spares then record x { current = x.length - 1; spares = x.spares - 1 } else x)

-- where that block comes from
abbrev pub source_of : Numbers → Source
source_of x = if nat_lt 0 x.current then source.Current else (if nat_lt 0 x.spares then source.Spare else source.Nothing)

-- the block of a `free` comes: to the current list, or to a fresh one where that list is full
abbrev pub after_gave_one : Numbers → Numbers
after_gave_one x =
    if nat_lt x.current x.length then record x { current = x.current + 1 }
    else record x { current = 1; spares = one_more x.spares }

-- where that block goes
abbrev pub target_of : Numbers → Target
target_of x = if nat_lt x.current x.length then target.Current else target.Fresh

-- the full current list becomes the newest spare, and none is current
abbrev pub after_shelved : Numbers → Numbers
after_shelved x = record x { current = 0; spares = one_more x.spares }

-- the blocks of the current list and of the spares
abbrev pub stock : Numbers → ℕ
stock x = x.current + x.length * x.spares

-- the blocks that the process keeps: the batch of a pending give is among them
abbrev pub kept : Numbers → ℕ
kept x = stock x + (if is_giving x.pending then x.length else 0)

-- the same where the batch in transit counts, whichever way it goes
abbrev pub withheld : Numbers → ℕ
withheld x = stock x + (if is_idle x.pending then 0 else x.length)
