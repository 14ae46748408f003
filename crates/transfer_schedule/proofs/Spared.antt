-- How many spares and blocks a plan keeps: what the table of spares and the bounds on kept blocks rest on.
use Rattle.std.proofs.Common.{◌≡◌, ℕ, ◌+◌, ◌-◌, ◌*◌, ◌<◌, ◌≤◌, true, false, ap, arith}
use Rattle.std.proofs.lemmas.Bool.Decides.{nat_tests}
use Rattle.transfer_schedule.specs.Numbers.{Numbers, is_idle, is_taking, is_giving, after_steps}
use Rattle.transfer_schedule.specs.Table.{InTable}
use Rattle.transfer_schedule.specs.Laws.{RestsWithFour, WithholdsFive}
use Rattle.transfer_schedule.proofs.Products.{times_le, quantum_some, whole_rounded}
use Rattle.transfer_schedule.proofs.Standing.{Standing, Ready}

-- `age` calls have made a whole quantum of steps of the pending transfer
pub record Spared (x : Numbers) (age : ℕ) : Type 0 where
  pub some : 0 < x.quantum
  pub room : x.current ≤ x.length
  pub idle_spares : is_idle x.pending ≡ true → x.spares ≤ 3
  pub take_spares : is_taking x.pending ≡ true → x.spares ≤ 2
  pub take_late : is_taking x.pending ≡ true → x.spares ≡ 2 → x.current ≤ age
  pub give_spares : is_giving x.pending ≡ true → x.spares ≤ 3
  pub give_late : is_giving x.pending ≡ true → x.spares ≡ 3 → x.current ≤ age
  pub aged : is_idle x.pending ≡ false → x.quantum * age ≤ x.done

-- so many spares has a plan that stands, also after further steps
pub spared_standing : (x : Numbers) (steps made entries begun ended : ℕ)
    → Standing x made entries begun ended
    → Spared (after_steps steps x) (entries - begun)
spared_standing x steps made entries begun ended s =
    let some = quantum_some x.length x.bound x.quantum s.sizes.some s.sizes.soon in grind (arith, nat_tests)

times_less_one : (q n : ℕ) → q * n ≤ q * (n + 1)
times_less_one q n = omega arith

-- so many has one before an own step
pub spared_ready : (x : Numbers) (entries begun ended : ℕ) → Ready x entries begun ended → Spared x (entries - begun)
spared_ready x entries begun ended r =
    let some = quantum_some x.length x.bound x.quantum r.sizes.some r.sizes.soon in grind (
      arith,
      nat_tests,
      times_less_one x.quantum (entries - begun),
    )

-- with so many the table of spares holds
pub spared_table : (x : Numbers) (age : ℕ) → Spared x age → InTable x
spared_table x age s = record {
  room = s.room;
  idle = λ e. s.idle_spares (ap is_idle e);
  take = λ e. s.take_spares (ap is_taking e);
  take_late = λ e two. omega (arith, s.take_late (ap is_taking e) two, whole_rounded x.done x.quantum age s.some (s.aged (ap is_idle e)));
  give = λ e. s.give_spares (ap is_giving e);
  give_late =
      λ e three. omega (arith, s.give_late (ap is_giving e) three, whole_rounded x.done x.quantum age s.some (s.aged (ap is_idle e)));
}

-- with nothing pending at most four batches are kept
pub spared_rests : (x : Numbers) (age : ℕ) → Spared x age → RestsWithFour x
spared_rests x age s = λ e. let idle = ap is_idle e in grind (arith, nat_tests, times_le x.length x.spares 3)

-- at most five batches are withheld, the one in transit included
pub spared_withholds : (x : Numbers) (age : ℕ) → Spared x age → WithholdsFive x
spared_withholds x age s = grind (arith, nat_tests, times_le x.length x.spares 3, times_le x.length x.spares 2)
