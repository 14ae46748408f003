-- What holds of a plan that its process moves by transfers alone: its current list stays full.
use Rattle.std.proofs.Common.{◌≡◌, ℕ, ◌≤◌, Bool, true, false, arith}
use Rattle.std.proofs.lemmas.Bool.Decides.{nat_tests}
use Rattle.transfer_schedule.specs.declared.pending.Pending.{Pending}
use Rattle.transfer_schedule.specs.declared.pending.Pending.TheVariants.{Idle, Taking, Giving}
use Rattle.transfer_schedule.specs.Beginning.{MayBegin}
use Rattle.transfer_schedule.specs.Numbers.{Numbers, AreSizes, is_idle, after_begin, after_end}
use Rattle.transfer_schedule.specs.Alone.{MovedAlone, opens, begins, moves, ends}
use Rattle.transfer_schedule.proofs.Products.{quantum_some}
use Rattle.transfer_schedule.proofs.Operations.{one_more_few}
use Rattle.transfer_schedule.proofs.Spared.{Spared}

-- the current list is full, and there are at most two spares, with a transfer pending one
record StaysFull (x : Numbers) : Type 0 where
  sizes : AreSizes x.length x.bound x.quantum
  full : x.current ≡ x.length
  idle : is_idle x.pending ≡ true → x.spares ≤ 2
  busy : is_idle x.pending ≡ false → x.spares ≤ 1

begin_full : (x : Numbers) (wish : Pending)
    → StaysFull x
    → is_idle x.pending ≡ true
    → MayBegin wish x.spares
    → StaysFull (after_begin wish x)
begin_full x Idle s idle may = absurd may
begin_full x Taking s idle may = grind (arith, nat_tests)
begin_full x Giving s idle may = grind (arith, nat_tests)

end_full : (x : Numbers) (found : Bool) → StaysFull x → is_idle x.pending ≡ false → StaysFull (after_end found x)
end_full x found s busy = grind (arith, nat_tests, one_more_few x.spares)

alone_full : (length bound quantum : ℕ) (x : Numbers) → AreSizes length bound quantum → MovedAlone length bound quantum x → StaysFull x
alone_full length bound quantum x sizes opens = grind (arith, nat_tests)
alone_full length bound quantum y sizes (begins {x = x} wish m idle may) =
    begin_full x wish (alone_full length bound quantum x sizes m) idle may
alone_full length bound quantum y sizes (moves {x = x} steps m busy within) =
    let s = alone_full length bound quantum x sizes m in
    record { sizes = s.sizes; full = s.full; idle = s.idle; busy = s.busy }
alone_full length bound quantum y sizes (ends {x = x} found m busy giving) =
    end_full x found (alone_full length bound quantum x sizes m) busy

full_spared : (x : Numbers) → StaysFull x → Spared x 0
full_spared x s = let some = quantum_some x.length x.bound x.quantum s.sizes.some s.sizes.soon in grind (arith, nat_tests)

-- a process that makes transfers alone has few spares, and its current list never grows old
pub alone_spared : (length bound quantum : ℕ) (x : Numbers) → AreSizes length bound quantum → MovedAlone length bound quantum x → Spared x 0
alone_spared length bound quantum x sizes m = full_spared x (alone_full length bound quantum x sizes m)
