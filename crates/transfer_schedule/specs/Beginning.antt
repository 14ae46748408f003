-- which transfer begins with so many spares; nothing else says it
use Rattle.std.specs.Prelude.{ℕ, ◌≤◌, ◌==◌, Bool, false, if◌then◌else◌, nat_le}
use Rattle.transfer_schedule.specs.declared.pending.Pending.{Pending}
use Rattle.transfer_schedule.specs.declared.pending.Pending.TheVariants.{Idle, Taking, Giving}

-- with at most so many spares a take is due
abbrev pub few_spares : ℕ
few_spares = 1

-- with so many spares a give is due
abbrev pub many_spares : ℕ
many_spares = 3

-- what is due as a call begins with nothing pending and so many spares
abbrev pub due_with : ℕ → Pending
due_with spares = if nat_le spares few_spares then Taking else (if spares == many_spares then Giving else Idle)

-- a transfer may begin with so many spares, also outside any call: a take with few, a give with one at least
abbrev pub MayBegin : Pending → ℕ → Type 0
MayBegin Idle spares = ⊥
MayBegin Taking spares = spares ≤ few_spares
MayBegin Giving spares = 1 ≤ spares

-- whether it may
abbrev pub may_begin : Pending → ℕ → Bool
may_begin Idle spares = false
may_begin Taking spares = nat_le spares few_spares
may_begin Giving spares = nat_le 1 spares
