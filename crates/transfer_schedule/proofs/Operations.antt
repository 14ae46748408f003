-- What each operation on the numbers of a plan leaves as it was.
use Rattle.std.proofs.Common.{◌≡◌, ◌≢◌, ℕ, ◌+◌, ◌≤◌, Bool, true, false, refl, arith}
use Rattle.std.proofs.lemmas.Bool.Decides.{nat_tests}
use Rattle.transfer_schedule.specs.declared.pending.Pending.{Pending}
use Rattle.transfer_schedule.specs.declared.pending.Pending.TheVariants.{Idle}
use Rattle.transfer_schedule.specs.declared.own_step.Source.TheVariants.{Nothing}
use Rattle.transfer_schedule.specs.Numbers.{Numbers, is_idle, one_more, after_choice, after_steps, after_end, after_took_one}
use Rattle.transfer_schedule.specs.Numbers.{after_gave_one, source_of}
use Rattle.transfer_schedule.specs.Laws.{HasSizes}

-- nothing is pending where the test says so
pub idle_is : (p : Pending) → is_idle p ≡ true → p ≡ Idle
idle_is p e = grind arith

-- something is pending where the test says so
pub busy_not_idle : (p : Pending) → is_idle p ≡ false → p ≢ Idle
busy_not_idle p e = λ idle. grind arith

-- the test says so where something is pending
pub not_idle_busy : (p : Pending) → p ≢ Idle → is_idle p ≡ false
not_idle_busy p ne = grind arith

-- few spares can be one more
pub one_more_few : (n : ℕ) → n ≤ 3 → one_more n ≡ n + 1
unfolding one_more
one_more_few n few = omega arith

-- a call chooses nothing while a transfer is pending
pub choice_busy : (x : Numbers) → is_idle x.pending ≡ false → after_choice x ≡ x
choice_busy x busy = grind (arith, nat_tests)

-- no step changes nothing
pub no_steps : (x : Numbers) → after_steps 0 x ≡ x
no_steps x = grind arith

-- what a transfer leaves at its end does not depend on the number of its steps
pub end_steps : (x : Numbers) (found : Bool) (steps : ℕ) → after_end found (after_steps steps x) ≡ after_end found x
end_steps x found steps = grind (arith, nat_tests)

-- an allocate that finds no block changes nothing
pub took_nothing : (x : Numbers) → source_of x ≡ Nothing → after_took_one x ≡ x
took_nothing x none = grind (arith, nat_tests)

-- two plans have the same transfer pending, as far along, and say the same of what the last take found
pub record SameTransfer (old new : Numbers) : Type 0 where
  pub pending : new.pending ≡ old.pending
  pub done : new.done ≡ old.done
  pub dry : new.dry ≡ old.dry

-- a plan has its own transfer
pub same_transfer : (x : Numbers) → SameTransfer x x
same_transfer x = record { pending = refl; done = refl; dry = refl }

-- so it is before and after an own step
pub took_same : (x : Numbers) → SameTransfer x (after_took_one x)
took_same x = grind (arith, nat_tests)

-- a free leaves the pending transfer
pub gave_same : (x : Numbers) → SameTransfer x (after_gave_one x)
gave_same x = grind (arith, nat_tests)

-- the sizes stay
pub choice_sizes : (x : Numbers) → HasSizes x.length x.bound x.quantum (after_choice x)
choice_sizes x = grind (arith, nat_tests)

-- the end of a transfer leaves the sizes
pub end_sizes : (x : Numbers) (found : Bool) → HasSizes x.length x.bound x.quantum (after_end found x)
end_sizes x found = grind (arith, nat_tests)

-- an allocate leaves the sizes
pub took_sizes : (x : Numbers) → HasSizes x.length x.bound x.quantum (after_took_one x)
took_sizes x = grind (arith, nat_tests)

-- a free leaves the sizes
pub gave_sizes : (x : Numbers) → HasSizes x.length x.bound x.quantum (after_gave_one x)
gave_sizes x = grind (arith, nat_tests)
