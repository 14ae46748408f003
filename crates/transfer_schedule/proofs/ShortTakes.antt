-- When a plan is short between two calls: the last call ended a take that found nothing.
use Rattle.std.proofs.Common.{◌≡◌, ℕ, ◌+◌, ◌<◌, ◌≤◌, Bool, true, false, Option, None, Some, List, [], ◌∷◌, sym, refl, ◌∙◌, ap, subst, arith}
use Rattle.std.proofs.lemmas.Bool.Decides.{nat_tests}
use Rattle.transfer_schedule.specs.declared.pending.Pending.{Pending}
use Rattle.transfer_schedule.specs.declared.pending.Pending.TheVariants.{Idle, Taking, Giving}
use Rattle.transfer_schedule.specs.declared.call.OwnStep.{OwnStep}
use Rattle.transfer_schedule.specs.declared.call.OwnStep.TheVariants.{Allocate, Free}
use Rattle.transfer_schedule.specs.declared.call.PlannedCall.{PlannedCall}
use Rattle.transfer_schedule.specs.Numbers.{Numbers, is_idle, is_taking, is_giving, after_choice, after_steps, after_end, stock}
use Rattle.transfer_schedule.specs.Calls.{after_transfer, ready_for, after_own, after_call, after_calls, Fits, FitAll, EndsEmpty}
use Rattle.transfer_schedule.proofs.Products.{times_two, times_less}
use Rattle.transfer_schedule.proofs.Operations.{busy_not_idle, end_steps, choice_sizes}
use Rattle.transfer_schedule.proofs.Stock.{end_stock, gave_stock}
use Rattle.transfer_schedule.proofs.Standing.{Standing, Ready, young, standing_spares, ready_spares}
use Rattle.transfer_schedule.proofs.Calling.{Rested, choice_rested, call_prepared, call_rested, own_pending, idle_ready, first_fits}
use Rattle.transfer_schedule.proofs.Calling.{rest_fit}

-- a call that leaves nothing pending and less than almost a batch has ended a take that found nothing
rests_full : (x : Numbers) (entries begun ended : ℕ)
    → Standing x 0 entries begun ended
    → is_idle (after_choice x).pending ≡ true
    → x.length ≤ stock (after_choice x)
rests_full x entries begun ended s idle = grind (arith, nat_tests, times_two)

found_full : (x : Numbers) → is_taking x.pending ≡ true → x.spares ≤ 3 → x.length ≤ stock (after_end true x)
found_full x taking few = rw (end_stock x true few) (grind arith)

given_full : (x : Numbers) (found : Bool) (made entries begun ended : ℕ)
    → Standing x made entries begun ended
    → is_giving x.pending ≡ true
    → x.length ≤ stock (after_end found x)
given_full x found made entries begun ended s giving = grind (arith, nat_tests, young x made entries begun ended s)

own_stock : (own : OwnStep) (x : Numbers) (entries begun ended : ℕ) → Ready x entries begun ended → stock x ≤ stock (after_own own x) + 1
own_stock Allocate x entries begun ended r = grind (arith, nat_tests, times_less x.length x.spares)
own_stock Free x entries begun ended r = omega (arith, gave_stock x (ready_spares x entries begun ended r) r.room)

-- a call after which nothing is pending and little is left ended a take that found nothing
pub call_short : (size entries begun : ℕ) (call : PlannedCall) (x : Numbers)
    → Rested size entries begun x
    → Fits call x
    → is_idle (after_call x call).pending ≡ true
    → stock (after_call x call) + 1 < size
    → ((after_choice x).pending ≡ Taking) × (call.end ≡ Some false)
call_short size entries begun call x s fits idle short = go (is_idle (after_choice x).pending) refl
  where
    Short : Numbers → Type 0
    Short y = is_idle y.pending ≡ true → stock y < size → ((after_choice x).pending ≡ Taking) × (call.end ≡ Some false)

    resting : is_idle (after_choice x).pending ≡ true → Short (ready_for call x)
    resting e =
        subst Short (sym (idle_ready call x fits e)) (λ _ low. absurd (omega (
          arith,
          rests_full x entries begun s.ended s.standing e,
          (choice_sizes x).0,
          s.sized,
        )))

    ending : is_idle (after_choice x).pending ≡ false
        → (found : Bool)
        → call.end ≡ Some found
        → (p : Pending)
        → (after_choice x).pending ≡ p
        → Short (after_end found (after_choice x))
    ending e found ends Idle is = absurd (busy_not_idle (after_choice x).pending e is)
    ending e true ends Taking is =
        let (from, next, same) = choice_rested size entries begun x s e in
        λ _ low. absurd (omega (
          arith,
          found_full (after_choice x) (ap is_taking is) (standing_spares (after_choice x) 0 entries from next.ended next.standing),
          next.sized,
        ))
    ending e false ends Taking is = λ _ low. (is, ends)
    ending e found ends Giving is =
        let (from, next, same) = choice_rested size entries begun x s e in
        λ _ low. absurd (omega (
          arith,
          given_full (after_choice x) found 0 entries from next.ended next.standing (ap is_giving is),
          next.sized,
        ))

    busy : is_idle (after_choice x).pending ≡ false
        → (end : Option Bool)
        → call.end ≡ end
        → Short (after_transfer end (after_steps call.steps (after_choice x)))
    busy e None goes = λ rest low. absurd (grind arith)
    busy e (Some found) ends = rw (end_steps (after_choice x) found call.steps) (ending e found ends (after_choice x).pending refl)

    short_ready : (b : Bool) → is_idle (after_choice x).pending ≡ b → Short (ready_for call x)
    short_ready true e = resting e
    short_ready false e = busy e call.end refl

    go : (b : Bool) → is_idle (after_choice x).pending ≡ b → ((after_choice x).pending ≡ Taking) × (call.end ≡ Some false)
    go b e =
        let (from, next, same) = call_prepared size entries begun call x s fits in
        short_ready b e (ap is_idle (sym (own_pending call.own (ready_for call x))) ∙ idle) (omega (
          arith,
          own_stock call.own (ready_for call x) entries from next.ended next.ready,
          short,
        ))

last_short : (size entries begun : ℕ) (call : PlannedCall) (calls : List PlannedCall) (x : Numbers)
    → Rested size entries begun x
    → FitAll (call ∷ calls) x
    → is_idle (after_calls (call ∷ calls) x).pending ≡ true
    → stock (after_calls (call ∷ calls) x) + 1 < size
    → EndsEmpty (call ∷ calls) x
last_short size entries begun call [] x s fit idle short =
    let k = call_short size entries begun call x s (first_fits call [] x fit) idle short in
    record { early = []; last = call; split = refl; take = k.0; empty = k.1 }
last_short size entries begun call (next ∷ calls) x s fit idle short =
    let c = call_rested size entries begun call x s (first_fits call (next ∷ calls) x fit) in
    let k = last_short size (entries + 1) c.from next calls (after_call x call) c.rested (rest_fit call (next ∷ calls) x fit) idle short in
    record { early = call ∷ k.early; last = k.last; split = ap (λ all. call ∷ all) k.split; take = k.take; empty = k.empty }

-- the same of the last of many calls, where the plan wasn't short before them
pub calls_short : (size entries begun : ℕ) (calls : List PlannedCall) (x : Numbers)
    → Rested size entries begun x
    → FitAll calls x
    → size ≤ stock x + 1
    → is_idle (after_calls calls x).pending ≡ true
    → stock (after_calls calls x) + 1 < size
    → EndsEmpty calls x
calls_short size entries begun [] x s fit enough idle short = absurd (omega arith)
calls_short size entries begun (call ∷ calls) x s fit enough idle short = last_short size entries begun call calls x s fit idle short
