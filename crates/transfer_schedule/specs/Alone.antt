-- The plan of a process that makes transfers outside any call.
use Rattle.std.specs.Prelude.{◌≡◌, ℕ, ◌+◌, ◌≤◌, Bool, true, false}
use Rattle.transfer_schedule.specs.declared.pending.Pending.{Pending}
use Rattle.transfer_schedule.specs.Beginning.{MayBegin}
use Rattle.transfer_schedule.specs.Numbers.{Numbers, AreSizes, is_idle, is_giving, opening, after_begin, after_steps, after_end}

-- the plan of a process that makes transfers alone, outside any call
pub data MovedAlone (length bound quantum : ℕ) : Numbers → Type 0 where
  opens : MovedAlone length bound quantum (opening length bound quantum)
  begins : {x : Numbers} (wish : Pending) → MovedAlone length bound quantum x → is_idle x.pending ≡ true → MayBegin wish x.spares
      → MovedAlone length bound quantum (after_begin wish x)
  moves : {x : Numbers} (steps : ℕ) → MovedAlone length bound quantum x → is_idle x.pending ≡ false → x.done + steps ≤ x.bound
      → MovedAlone length bound quantum (after_steps steps x)
  ends : {x : Numbers} (found : Bool)
      → MovedAlone length bound quantum x → is_idle x.pending ≡ false → (is_giving x.pending ≡ true → found ≡ true)
      → MovedAlone length bound quantum (after_end found x)

-- a fact of every such plan at sizes which fit
abbrev pub EveryAlone : (Numbers → Type 0) → Type 0
EveryAlone Fact = (length bound quantum : ℕ) (x : Numbers)
    → AreSizes length bound quantum
    → MovedAlone length bound quantum x
    → Fact x
