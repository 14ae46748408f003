-- A stop: a search, and a removal behind it.
use Rattle.std.proofs.Common.{◌≡◌, ℕ, ◌+◌, ◌*◌, ◌≤◌, subst, arith}
use Rattle.block_pool.specs.Passing.{Passed}
use Rattle.object_store.specs.Calls.{CountedWithin}
use Rattle.timer_wheel.specs.Places.{Places}
use Rattle.timer_wheel.specs.Serving.{LeavesFar}

-- what stays after a change of moves alone stays
pub far_after : (P Q : Places) (moves : ℕ) (a b c : Passed) → b ≡ record a { moves = moves } → LeavesFar P Q b c → LeavesFar P Q a c
far_after P Q moves a b c is far =
    let at : LeavesFar P Q (record a { moves = moves }) c = subst (λ (p : Passed). LeavesFar P Q p c) is far in
    record { far = at.far; held = at.held; known = at.known }

-- the steps of both are within the bound
pub stop_counted : (count runs quantum same s t u : ℕ) (a b c : Passed) → runs ≡ count → 1 ≤ count → same ≡ quantum
    → CountedWithin 0 (4 * count + 4) s t a b → CountedWithin 0 (same + 13) t u b c → CountedWithin 0 (8 * runs + quantum + 13) s u a c
stop_counted count runs quantum same s t u a b c all some is one other = record {
  made = one.made + other.made;
  least = omega arith;
  most = omega (arith, all, some, is, one.most, other.most);
  steps = omega (arith, one.steps, other.steps);
  moves = omega (arith, one.moves, other.moves);
}
