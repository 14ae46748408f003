-- What holds of a plan after any list of calls that are made as the schedule says.
use Rattle.std.proofs.Common.{◌≡◌, ℕ, zero, suc, ◌+◌, ◌-◌, ◌*◌, ◌<◌, ◌≤◌, Bool, true, false, if◌then◌else◌, Option, None, Some, List, []}
use Rattle.std.proofs.Common.{◌∷◌, length, take, get_or, sym, refl, ◌∙◌, ap, subst, inl, inr, arith}
use Rattle.std.proofs.lemmas.Bool.{cases_Bool}
use Rattle.std.proofs.lemmas.Option.{slice_get-get_or}
use Rattle.transfer_schedule.specs.declared.pending.Pending.TheVariants.{Idle}
use Rattle.transfer_schedule.specs.declared.own_step.Source.TheVariants.{Nothing}
use Rattle.transfer_schedule.specs.declared.call.OwnStep.{OwnStep}
use Rattle.transfer_schedule.specs.declared.call.OwnStep.TheVariants.{Allocate, Free}
use Rattle.transfer_schedule.specs.declared.call.PlannedCall.{PlannedCall}
use Rattle.transfer_schedule.specs.Numbers.{Numbers, AreSizes, is_idle, is_taking, opening, after_choice, after_steps, after_end, source_of}
use Rattle.transfer_schedule.specs.Numbers.{kept, withheld}
use Rattle.transfer_schedule.specs.Table.{InTable}
use Rattle.transfer_schedule.specs.Calls.{after_transfer, ready_for, after_own, after_call, after_calls, Fits, FitAll, LeavesIdle, IsMoment}
use Rattle.transfer_schedule.specs.Calls.{between, moving, ready}
use Rattle.transfer_schedule.proofs.Operations.{idle_is, busy_not_idle, not_idle_busy, no_steps, end_steps, choice_busy, choice_sizes}
use Rattle.transfer_schedule.proofs.Operations.{end_sizes, took_sizes, took_same, gave_sizes, gave_same}
use Rattle.transfer_schedule.proofs.Standing.{Standing, Ready, opening_stands, choice_stands, choice_ready, steps_stand, steps_ready}
use Rattle.transfer_schedule.proofs.Standing.{end_ready, took_stands, gave_stands, young, nothing_dry}
use Rattle.transfer_schedule.proofs.Spared.{Spared, spared_standing, spared_ready, spared_table, spared_rests, spared_withholds}

-- a plan of batches of `size` blocks between two calls
pub record Rested (size entries begun : ℕ) (x : Numbers) : Type 0 where
  pub ended : ℕ
  pub standing : Standing x 0 entries begun ended
  pub sized : x.length ≡ size

-- and before the own step of a call
pub record Prepared (size entries begun : ℕ) (x : Numbers) : Type 0 where
  pub ended : ℕ
  pub ready : Ready x entries begun ended
  pub sized : x.length ≡ size

-- what a call leaves of a plan x: y, whose pending transfer began before the call's own step, and earlier where one was pending in x
pub record Called (size entries begun : ℕ) (x y : Numbers) : Type 0 where
  pub from : ℕ
  pub rested : Rested size (entries + 1) from y
  pub same : is_idle x.pending ≡ false → from ≡ begun
  pub before : is_idle y.pending ≡ false → from ≤ entries

-- the beginning of a call leaves a transfer pending
pub choice_rested : (size entries begun : ℕ) (x : Numbers)
    → Rested size entries begun x
    → is_idle (after_choice x).pending ≡ false
    → (from : ℕ) × Rested size entries from (after_choice x) × (is_idle x.pending ≡ false → from ≡ begun)
choice_rested size entries begun x s busy = go (is_idle x.pending) refl
  where
    go : (idle : Bool)
        → is_idle x.pending ≡ idle
        → (from : ℕ) × Rested size entries from (after_choice x) × (is_idle x.pending ≡ false → from ≡ begun)
    go true e = (
      entries,
      record { ended = s.ended; standing = choice_stands x entries begun s.ended s.standing e; sized = (choice_sizes x).0 ∙ s.sized },
      λ f. absurd (grind arith),
    )
    go false e = (begun, subst (λ y. Rested size entries begun y) (sym (choice_busy x e)) s, λ f. refl)

-- a whole quantum of steps of a transfer that goes on
quantum_prepared : (size entries begun steps : ℕ) (x : Numbers)
    → Rested size entries begun x
    → is_idle x.pending ≡ false
    → steps ≡ x.quantum
    → x.done + steps < x.bound
    → Prepared size entries begun (after_steps steps x)
quantum_prepared size entries begun steps x s busy whole under =
    let moved = steps_stand x steps 0 entries begun s.ended s.standing busy under in
    let all : 0 + steps ≡ x.quantum = omega (arith, whole) in
    let now = subst (λ n. Standing (after_steps steps x) n entries begun s.ended) all moved in
    record { ended = s.ended; ready = steps_ready (after_steps steps x) entries begun s.ended now busy; sized = s.sized }

-- the transfer ends after some steps
end_prepared : (size entries begun steps : ℕ) (found : Bool) (x : Numbers)
    → Rested size entries begun x
    → is_idle x.pending ≡ false
    → Prepared size entries begun (after_end found (after_steps steps x))
end_prepared size entries begun steps found x s busy =
    rw (end_steps x found steps) (record {
      ended = if is_taking x.pending then begun else s.ended;
      ready = end_ready x found 0 entries begun s.ended s.standing busy;
      sized = (end_sizes x found).0 ∙ s.sized;
    })

-- a call in which nothing is pending comes to its own step at once
pub idle_ready : (call : PlannedCall) (x : Numbers)
    → Fits call x
    → is_idle (after_choice x).pending ≡ true
    → ready_for call x ≡ after_choice x
idle_ready call x fits idle =
    let rest = idle_is (after_choice x).pending idle in
    rw (fits.idle_end rest, fits.idle_steps rest) (no_steps (after_choice x))

-- a call up to its own step
pub call_prepared : (size entries begun : ℕ) (call : PlannedCall) (x : Numbers)
    → Rested size entries begun x
    → Fits call x
    → (from : ℕ) × Prepared size entries from (ready_for call x) × (is_idle x.pending ≡ false → from ≡ begun)
call_prepared size entries begun call x s fits = go (is_idle (after_choice x).pending) refl
  where
    Result : Numbers → Type 0
    Result y = (from : ℕ) × Prepared size entries from y × (is_idle x.pending ≡ false → from ≡ begun)

    resting : is_idle (after_choice x).pending ≡ true → Result (ready_for call x)
    resting e =
        rw (idle_ready call x fits e) (
          begun,
          record { ended = s.ended; ready = choice_ready x entries begun s.ended s.standing e; sized = (choice_sizes x).0 ∙ s.sized },
          λ _. refl,
        )

    busy : is_idle (after_choice x).pending ≡ false
        → (end : Option Bool)
        → call.end ≡ end
        → Result (after_transfer end (after_steps call.steps (after_choice x)))
    busy e None goes =
        let (from, next, same) = choice_rested size entries begun x s e in
        let pending = busy_not_idle (after_choice x).pending e in (
          from,
          quantum_prepared size entries from call.steps (after_choice x) next e
              (fits.whole pending goes ∙ sym (choice_sizes x).2)
              (omega (arith, fits.under pending goes, (choice_sizes x).1)),
          same,
        )
    busy e (Some found) ends =
        let (from, next, same) = choice_rested size entries begun x s e in
        (from, end_prepared size entries from call.steps found (after_choice x) next e, same)

    go : (idle : Bool) → is_idle (after_choice x).pending ≡ idle → Result (ready_for call x)
    go true e = resting e
    go false e = busy e call.end refl

own_rested : (size entries begun : ℕ) (own : OwnStep) (x : Numbers)
    → Prepared size entries begun x
    → Rested size (entries + 1) begun (after_own own x)
own_rested size entries begun Allocate x p =
    record { ended = p.ended; standing = took_stands x entries begun p.ended p.ready; sized = (took_sizes x).0 ∙ p.sized }
own_rested size entries begun Free x p =
    record { ended = p.ended; standing = gave_stands x entries begun p.ended p.ready; sized = (gave_sizes x).0 ∙ p.sized }

-- an own step leaves what is pending
pub own_pending : (own : OwnStep) (x : Numbers) → (after_own own x).pending ≡ x.pending
own_pending Allocate x = (took_same x).pending
own_pending Free x = (gave_same x).pending

-- a whole call
pub call_rested : (size entries begun : ℕ) (call : PlannedCall) (x : Numbers)
    → Rested size entries begun x
    → Fits call x
    → Called size entries begun x (after_call x call)
call_rested size entries begun call x s fits =
    let (from, next, same) = call_prepared size entries begun call x s fits in
    record {
      from = from;
      rested = own_rested size entries from call.own (ready_for call x) next;
      same = same;
      before = λ busy. next.ready.begun_before (ap is_idle (sym (own_pending call.own (ready_for call x))) ∙ busy);
    }

-- the first of calls that fit fits
pub first_fits : (call : PlannedCall) (calls : List PlannedCall) (x : Numbers) → FitAll (call ∷ calls) x → Fits call x
first_fits call calls x fit = fit zero call refl

-- the calls after the first fit the numbers that it leaves
pub rest_fit : (call : PlannedCall) (calls : List PlannedCall) (x : Numbers) → FitAll (call ∷ calls) x → FitAll calls (after_call x call)
rest_fit call calls x fit = λ k c e. fit (suc k) c e

-- the call at a place fits what those before it leave
pub place_fits : (calls : List PlannedCall) (x y : Numbers) (k : ℕ) (d : PlannedCall)
    → FitAll calls x
    → k < length calls
    → y ≡ after_calls (take k calls) x
    → Fits (get_or calls k d) y
place_fits calls x y k d fit low e = rw e (fit k (get_or calls k d) (slice_get-get_or calls k d low))

later : (k n : ℕ) (call : PlannedCall) (calls : List PlannedCall) (x : Numbers)
    → LeavesIdle k n calls (after_call x call)
    → LeavesIdle (suc k) n (call ∷ calls) x
later k n call calls x l = record { place = suc l.place; after = omega (arith, l.after); within = omega (arith, l.within); idle = l.idle }

sooner : (n : ℕ) (call : PlannedCall) (calls : List PlannedCall) (x : Numbers)
    → LeavesIdle zero n calls (after_call x call)
    → LeavesIdle zero (suc n) (call ∷ calls) x
sooner n call calls x l = record { place = suc l.place; after = omega arith; within = omega (arith, l.within); idle = l.idle }

at_once : (n : ℕ) (call : PlannedCall) (calls : List PlannedCall) (x : Numbers)
    → is_idle (after_call x call).pending ≡ true
    → LeavesIdle zero (suc n) (call ∷ calls) x
at_once n call calls x e =
    record { place = suc zero; after = omega arith; within = omega arith; idle = idle_is (after_call x call).pending e }

-- a transfer that began at entry `begun` ends while n more calls make it `size` calls old
still_ends : (size entries begun n : ℕ) (calls : List PlannedCall) (x : Numbers)
    → Rested size entries begun x
    → FitAll calls x
    → is_idle x.pending ≡ false
    → size + begun ≤ entries + n
    → n ≤ length calls
    → LeavesIdle zero n calls x
still_ends size entries begun zero calls x s fit busy old few =
    absurd (omega (arith, young x 0 entries begun s.ended s.standing busy, s.sized))
still_ends size entries begun (suc n) [] x s fit busy old few = absurd (omega arith)
still_ends size entries begun (suc n) (call ∷ calls) x s fit busy old few =
    let c = call_rested size entries begun call x s (first_fits call calls x fit) in
    elim (cases_Bool (is_idle (after_call x call).pending)) [
      | inl e ↦ at_once n call calls x e
      | inr e ↦
          sooner n call calls x
          (still_ends size (entries + 1) c.from n calls (after_call x call) c.rested (rest_fit call calls x fit) e
          (omega (arith, old, c.same busy))
          (omega (arith, few)))
    ]

-- of any `size` calls in a row, one leaves nothing pending
pub row_ends : (size entries begun k : ℕ) (calls : List PlannedCall) (x : Numbers)
    → Rested size entries begun x
    → FitAll calls x
    → k + size ≤ length calls
    → LeavesIdle k size calls x
row_ends size entries begun k [] x s fit few = absurd (omega (arith, s.standing.sizes.long, s.sized, few))
row_ends size entries begun (suc k) (call ∷ calls) x s fit few =
    let c = call_rested size entries begun call x s (first_fits call calls x fit) in
    later k size call calls x
    (row_ends size (entries + 1) c.from k calls (after_call x call) c.rested (rest_fit call calls x fit) (omega (arith, few)))
row_ends size entries begun zero (call ∷ calls) x s fit few = go (is_idle (after_call x call).pending) refl
  where
    c : Called size entries begun x (after_call x call)
    c = call_rested size entries begun call x s (first_fits call calls x fit)

    one_less : suc (size - 1) ≡ size
    one_less = omega (arith, s.standing.sizes.long, s.sized)

    go : (idle : Bool) → is_idle (after_call x call).pending ≡ idle → LeavesIdle zero size (call ∷ calls) x
    go true e = subst (λ n. LeavesIdle zero n (call ∷ calls) x) one_less (at_once (size - 1) call calls x e)
    go false e =
        subst (λ n. LeavesIdle zero n (call ∷ calls) x) one_less
        (sooner (size - 1) call calls x
        (still_ends size (entries + 1) c.from (size - 1) calls (after_call x call) c.rested (rest_fit call calls x fit) e
        (omega (arith, c.before e, s.standing.sizes.long, s.sized))
        (omega (arith, few))))

-- a plan after calls, for some numbers of entries
pub record Kept (size : ℕ) (x : Numbers) : Type 0 where
  pub entries : ℕ
  pub begun : ℕ
  pub rested : Rested size entries begun x

-- the facts of a plan between two calls hold after each list of calls that fit
pub calls_rest : (size entries begun : ℕ) (calls : List PlannedCall) (x : Numbers)
    → Rested size entries begun x
    → FitAll calls x
    → Kept size (after_calls calls x)
calls_rest size entries begun [] x s fit = record { entries = entries; begun = begun; rested = s }
calls_rest size entries begun (call ∷ calls) x s fit =
    let c = call_rested size entries begun call x s (first_fits call calls x fit) in
    calls_rest size (entries + 1) c.from calls (after_call x call) c.rested (rest_fit call calls x fit)

-- they hold at the opening
pub opening_rested : (length bound quantum : ℕ) → AreSizes length bound quantum → Rested length 0 0 (opening length bound quantum)
opening_rested length bound quantum sizes = record { ended = 0; standing = opening_stands length bound quantum sizes; sized = refl }

-- the numbers at any moment of the next call
record SparedSized (size : ℕ) (x : Numbers) : Type 0 where
  age : ℕ
  spared : Spared x age
  sized : x.length ≡ size

moment_spared : (size entries begun : ℕ) (x y : Numbers) → Rested size entries begun x → IsMoment x y → SparedSized size y
moment_spared size entries begun x y s between = record {
  age = entries - begun;
  spared = subst (λ z. Spared z (entries - begun)) (no_steps x) (spared_standing x 0 0 entries begun s.ended s.standing);
  sized = s.sized;
}
moment_spared size entries begun x y s (moving steps busy few within) =
    let (from, next, same) = choice_rested size entries begun x s (not_idle_busy (after_choice x).pending busy) in
    record {
      age = entries - from;
      spared = spared_standing (after_choice x) steps 0 entries from next.ended next.standing;
      sized = next.sized;
    }
moment_spared size entries begun x y s (ready call fits) =
    let (from, next, same) = call_prepared size entries begun call x s fits in
    record { age = entries - from; spared = spared_ready (ready_for call x) entries from next.ended next.ready; sized = next.sized }

-- the table of spares holds at each moment of the next call
pub moment_table : (size : ℕ) (x y : Numbers) → Kept size x → IsMoment x y → InTable y
moment_table size x y k m = let s = moment_spared size k.entries k.begun x y k.rested m in spared_table y s.age s.spared

-- at most four batches are kept at each moment with nothing pending
pub moment_rests : (size : ℕ) (x y : Numbers) → Kept size x → IsMoment x y → y.pending ≡ Idle → kept y ≤ 4 * size
moment_rests size x y k m e =
    let s = moment_spared size k.entries k.begun x y k.rested m in
    subst (λ n. kept y ≤ 4 * n) s.sized (spared_rests y s.age s.spared e)

-- at most five are withheld at each moment
pub moment_withholds : (size : ℕ) (x y : Numbers) → Kept size x → IsMoment x y → withheld y ≤ 5 * size
moment_withholds size x y k m =
    let s = moment_spared size k.entries k.begun x y k.rested m in
    subst (λ n. withheld y ≤ 5 * n) s.sized (spared_withholds y s.age s.spared)

-- a call finds no block only where the last ended take found nothing
pub call_nothing : (size : ℕ) (call : PlannedCall) (x : Numbers)
    → Kept size x
    → Fits call x
    → source_of (ready_for call x) ≡ Nothing
    → (ready_for call x).dry ≡ true
call_nothing size call x k fits none =
    let (from, next, same) = call_prepared size k.entries k.begun call x k.rested fits in
    (nothing_dry (ready_for call x) k.entries from next.ended next.ready none).0
