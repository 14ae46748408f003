-- What a plan keeps between its calls and in them, with the entries of its process: the facts that each step
-- carries on. `made` transfer steps were made in the present call, `entries` calls have ended; the pending
-- transfer began at entry `begun`, and the last ended take at entry `ended`.
use Rattle.std.proofs.Common.{◌≡◌, ℕ, ◌+◌, ◌-◌, ◌*◌, ◌<◌, ◌≤◌, Bool, true, false, if◌then◌else◌, arith}
use Rattle.std.proofs.lemmas.Bool.Decides.{nat_tests}
use Rattle.transfer_schedule.specs.declared.own_step.Source.TheVariants.{Nothing}
use Rattle.transfer_schedule.specs.Numbers.{Numbers, AreSizes, is_idle, is_taking, is_giving, opening, after_choice, after_steps, after_end}
use Rattle.transfer_schedule.specs.Numbers.{after_took_one, after_gave_one, source_of, stock}
use Rattle.transfer_schedule.proofs.Products.{times_two, times_more, times_less, less_of_times}
use Rattle.transfer_schedule.proofs.Operations.{one_more_few}

-- between two calls, or in the transfer steps of one
pub record Standing (x : Numbers) (made entries begun ended : ℕ) : Type 0 where
  pub sizes : AreSizes x.length x.bound x.quantum
  pub room : x.current ≤ x.length
  pub idle_spares : is_idle x.pending ≡ true → x.spares ≤ 3
  pub idle_dry : is_idle x.pending ≡ true → stock x + 1 < x.length → x.dry ≡ true
  pub idle_recent : is_idle x.pending ≡ true → stock x + 1 < x.length → entries ≤ ended + x.length
  pub take_spares : is_taking x.pending ≡ true → x.spares ≤ 2
  pub take_late : is_taking x.pending ≡ true → x.spares ≡ 2 → x.current + begun ≤ entries
  pub take_dry : is_taking x.pending ≡ true → stock x + 1 + entries < x.length + begun → x.dry ≡ true
  pub take_recent : is_taking x.pending ≡ true → stock x + 1 + entries < x.length + begun → begun ≤ ended + x.length
  pub give_spares : is_giving x.pending ≡ true → x.spares ≤ 3
  pub give_late : is_giving x.pending ≡ true → x.spares ≡ 3 → x.current + begun ≤ entries
  pub give_stock : is_giving x.pending ≡ true → 2 * x.length + begun ≤ stock x + entries
  pub begun_before : is_idle x.pending ≡ false → begun ≤ entries
  pub done_now : is_idle x.pending ≡ false → x.done ≡ x.quantum * (entries - begun) + made
  pub done_low : is_idle x.pending ≡ false → x.done < x.bound

-- in a call, before its own step
pub record Ready (x : Numbers) (entries begun ended : ℕ) : Type 0 where
  pub sizes : AreSizes x.length x.bound x.quantum
  pub room : x.current ≤ x.length
  pub idle_spares : is_idle x.pending ≡ true → x.spares ≤ 3
  pub idle_full : is_idle x.pending ≡ true → x.spares ≡ 3 → x.current < x.length
  pub idle_dry : is_idle x.pending ≡ true → stock x < x.length → x.dry ≡ true
  pub idle_recent : is_idle x.pending ≡ true → stock x < x.length → entries + 1 ≤ ended + x.length
  pub take_spares : is_taking x.pending ≡ true → x.spares ≤ 2
  pub take_late : is_taking x.pending ≡ true → x.spares ≡ 2 → x.current + begun ≤ entries
  pub take_dry : is_taking x.pending ≡ true → stock x + 1 + entries < x.length + begun → x.dry ≡ true
  pub take_recent : is_taking x.pending ≡ true → stock x + 1 + entries < x.length + begun → begun ≤ ended + x.length
  pub give_spares : is_giving x.pending ≡ true → x.spares ≤ 3
  pub give_late : is_giving x.pending ≡ true → x.spares ≡ 3 → x.current + begun ≤ entries
  pub give_stock : is_giving x.pending ≡ true → 2 * x.length + begun ≤ stock x + entries
  pub begun_before : is_idle x.pending ≡ false → begun ≤ entries
  pub done_now : is_idle x.pending ≡ false → x.done ≡ x.quantum * (entries - begun + 1)
  pub done_low : is_idle x.pending ≡ false → x.done < x.bound

-- a pending transfer is younger than `length` calls
pub young : (x : Numbers) (made entries begun ended : ℕ)
    → Standing x made entries begun ended
    → is_idle x.pending ≡ false
    → entries < x.length + begun
young x made entries begun ended s busy = omega (
  arith,
  less_of_times x.quantum (entries - begun) x.length (omega (arith, s.sizes.soon, s.done_low busy, s.done_now busy)),
  s.begun_before busy,
)

-- before an own step it is younger by one call more
pub young_ready : (x : Numbers) (entries begun ended : ℕ)
    → Ready x entries begun ended
    → is_idle x.pending ≡ false
    → entries + 1 < x.length + begun
young_ready x entries begun ended r busy = omega (
  arith,
  less_of_times x.quantum (entries - begun + 1) x.length (omega (arith, r.sizes.soon, r.done_low busy, r.done_now busy)),
  r.begun_before busy,
)

-- the plan of the opening stands
pub opening_stands : (length bound quantum : ℕ) → AreSizes length bound quantum → Standing (opening length bound quantum) 0 0 0 0
opening_stands length bound quantum sizes = grind (arith, nat_tests)

-- a call begins, with a transfer or in the midst of one
pub choice_stands : (x : Numbers) (entries begun ended : ℕ)
    → Standing x 0 entries begun ended
    → is_idle x.pending ≡ true
    → Standing (after_choice x) 0 entries entries ended
choice_stands x entries begun ended s idle = grind (arith, nat_tests, times_two)

-- a call begins without a transfer
pub choice_ready : (x : Numbers) (entries begun ended : ℕ)
    → Standing x 0 entries begun ended
    → is_idle (after_choice x).pending ≡ true
    → Ready (after_choice x) entries begun ended
choice_ready x entries begun ended s idle = grind (arith, nat_tests, times_two)

-- the transfer makes steps and goes on
pub steps_stand : (x : Numbers) (steps made entries begun ended : ℕ)
    → Standing x made entries begun ended
    → is_idle x.pending ≡ false
    → x.done + steps < x.bound
    → Standing (after_steps steps x) (made + steps) entries begun ended
steps_stand x steps made entries begun ended s busy low = grind (arith, nat_tests)

-- a quantum of steps was made
pub steps_ready : (x : Numbers) (entries begun ended : ℕ)
    → Standing x x.quantum entries begun ended
    → is_idle x.pending ≡ false
    → Ready x entries begun ended
steps_ready x entries begun ended s busy = grind (arith, nat_tests, times_more x.quantum (entries - begun))

-- the transfer ends
pub end_ready : (x : Numbers) (found : Bool) (made entries begun ended : ℕ)
    → Standing x made entries begun ended
    → is_idle x.pending ≡ false
    → Ready (after_end found x) entries begun (if is_taking x.pending then begun else ended)
end_ready x found made entries begun ended s busy =
    grind (arith, nat_tests, young x made entries begun ended s busy, times_more x.length x.spares, one_more_few x.spares)

-- it stands after an allocate
pub took_stands : (x : Numbers) (entries begun ended : ℕ)
    → Ready x entries begun ended
    → Standing (after_took_one x) 0 (entries + 1) begun ended
took_stands x entries begun ended r = grind (arith, nat_tests, times_less x.length x.spares)

-- it stands after a free
pub gave_stands : (x : Numbers) (entries begun ended : ℕ)
    → Ready x entries begun ended
    → Standing (after_gave_one x) 0 (entries + 1) begun ended
gave_stands x entries begun ended r =
    grind (arith, nat_tests, times_more x.length x.spares, one_more_few x.spares, young_ready x entries begun ended r)

-- before an own step that finds no block the plan says dry, and the last ended take began fewer than two batches of entries ago
pub nothing_dry : (x : Numbers) (entries begun ended : ℕ)
    → Ready x entries begun ended
    → source_of x ≡ Nothing
    → (x.dry ≡ true) × (entries + 1 < ended + 2 * x.length)
nothing_dry x entries begun ended r none =
    (grind (arith, nat_tests, young_ready x entries begun ended r), grind (arith, nat_tests, young_ready x entries begun ended r))

-- a plan that stands has at most three spares
pub standing_spares : (x : Numbers) (made entries begun ended : ℕ) → Standing x made entries begun ended → x.spares ≤ 3
standing_spares x made entries begun ended s = grind (arith, nat_tests)

-- one before an own step has at most three
pub ready_spares : (x : Numbers) (entries begun ended : ℕ) → Ready x entries begun ended → x.spares ≤ 3
ready_spares x entries begun ended r = grind (arith, nat_tests)
