-- Every account that the schedule reaches stands: each step keeps the facts of its phase.
use Rattle.std.proofs.Common.{◌≡◌, ◌≢◌, ℕ, ◌+◌, ◌*◌, ◌<◌, ◌≤◌, Bool, true, false, if◌then◌else◌, sym, refl, ◌∙◌, ap, subst, inl, inr}
use Rattle.std.proofs.Common.{arith}
use Rattle.std.proofs.lemmas.Bool.{cases_eq}
use Rattle.std.proofs.lemmas.Bool.Decides.{nat_tests}
use Rattle.transfer_schedule.specs.declared.own_step.Source.TheVariants.{Nothing}
use Rattle.transfer_schedule.specs.declared.pending.Pending.TheVariants.{Giving}
use Rattle.transfer_schedule.specs.Numbers.{Numbers, AreSizes, is_idle, is_taking, is_giving, after_begin, after_choice, after_steps}
use Rattle.transfer_schedule.specs.Numbers.{after_end, after_took_one, after_gave_one, after_shelved, source_of, stock}
use Rattle.transfer_schedule.specs.Account.{CallPhase, Between, Moving, Own, Seeking, Choosing, Sought, Leaving, Clearing, Shedding}
use Rattle.transfer_schedule.specs.Account.{Resting, Joining, Returning, Account, after_move, moves_in, asks_in, chooses_in, stepped}
use Rattle.transfer_schedule.specs.Account.{ended_with, last_take, sought_by}
use Rattle.transfer_schedule.specs.Account.{Follows, begins, continues, idles, moves, ends, gets, refuses, frees, meets, seeks, quits}
use Rattle.transfer_schedule.specs.Account.{clears, gives, shelves, retires, enlists, retakes, Reached, opens, follows}
use Rattle.transfer_schedule.specs.Laws.{HasSizes}
use Rattle.transfer_schedule.specs.Laws.{serves}
use Rattle.transfer_schedule.proofs.Products.{times_two, times_three}
use Rattle.transfer_schedule.proofs.Operations.{one_more_few, end_steps, choice_busy, choice_sizes, end_sizes, took_sizes}
use Rattle.transfer_schedule.proofs.Operations.{gave_sizes, took_nothing}
use Rattle.transfer_schedule.proofs.Stock.{end_stock, took_stock, gave_stock}
use Rattle.transfer_schedule.proofs.Standing.{Standing, Ready, opening_stands, choice_stands, choice_ready, steps_stand, steps_ready}
use Rattle.transfer_schedule.proofs.Standing.{end_ready, took_stands, gave_stands, standing_spares}
use Rattle.transfer_schedule.proofs.Standing.{ready_spares}
use Rattle.transfer_schedule.proofs.AtPhase.{AtPhase, Moves, Seeks, Stands, at, no_net, some_of}

-- each operation keeps the stock and what was got at least two batches above what was given back
choice_net : (x : Numbers) (gots backs : ℕ)
    → backs ≤ gots
    → 2 * x.length + backs ≤ stock x + gots
    → 2 * (after_choice x).length + backs ≤ stock (after_choice x) + gots
choice_net x gots backs held net = grind (arith, nat_tests, times_two, times_three)

end_net : (x : Numbers) (found : Bool) (gots backs : ℕ)
    → x.spares ≤ 3
    → 2 * x.length + backs ≤ stock x + gots
    → 2 * (after_end found x).length + backs ≤ stock (after_end found x) + gots
end_net x found gots backs few net = omega (arith, end_stock x found few, (end_sizes x found).0)

took_net : (x : Numbers) (gots backs : ℕ)
    → source_of x ≢ Nothing
    → 2 ≤ x.length
    → 2 * x.length + backs ≤ stock x + gots
    → 2 * (after_took_one x).length + backs ≤ stock (after_took_one x) + (gots + 1)
took_net x gots backs some long net = omega (arith, took_stock x some (omega arith), (took_sizes x).0)

refused_net : (x : Numbers) (gots backs : ℕ)
    → source_of x ≡ Nothing
    → 2 * x.length + backs ≤ stock x + gots
    → 2 * (after_took_one x).length + backs ≤ stock (after_took_one x) + gots
refused_net x gots backs none net = rw (took_nothing x none) net

gave_net : (x : Numbers) (gots backs : ℕ)
    → x.spares ≤ 3
    → x.current ≤ x.length
    → 2 * x.length + backs ≤ stock x + gots
    → 2 * (after_gave_one x).length + (backs + 1) ≤ stock (after_gave_one x) + gots
gave_net x gots backs few room net = omega (arith, gave_stock x few room, (gave_sizes x).0)

move_last : (quantum made : ℕ) → made + 1 ≡ quantum → after_move quantum made ≡ Own
move_last quantum made e = grind (arith, nat_tests)

move_more : (quantum made : ℕ) → made + 1 ≢ quantum → after_move quantum made ≡ Moving (made + 1)
move_more quantum made ne = grind (arith, nat_tests)

-- a transfer step of an allocate or a free that isn't the last
quantum_step : (a : Account) (made : ℕ) → Moves made a → a.plan.done + 1 < a.plan.bound
    → AtPhase (after_move a.plan.quantum made) (record a { plan = after_steps 1 a.plan; phase = after_move a.plan.quantum made })
quantum_step a made m low = elim (cases_eq (made + 1) a.plan.quantum) [
  | inl e ↦ rw (move_last a.plan.quantum made e) (last e)
  | inr ne ↦ rw (move_more a.plan.quantum made ne) (record { standing = next; busy = m.busy; few = omega (arith, m.few) })
]
  where
    next : Standing (after_steps 1 a.plan) (made + 1) a.entries a.begun a.ended
    next = steps_stand a.plan 1 made a.entries a.begun a.ended m.standing m.busy low

    last : made + 1 ≡ a.plan.quantum → AtPhase Own (record a { plan = after_steps 1 a.plan; phase = after_move a.plan.quantum made })
    last e =
        let now = subst (λ n. Standing (after_steps 1 a.plan) n a.entries a.begun a.ended) e next in
        steps_ready (after_steps 1 a.plan) a.entries a.begun a.ended now m.busy

-- of a search or a retire
sought_step : (chosen : Bool) (a : Account) (phase : CallPhase) → Seeks chosen a → a.plan.done + 1 < a.plan.bound
    → Seeks chosen (record a { plan = after_steps 1 a.plan; phase = phase })
sought_step chosen a phase m low = record {
  made = m.made + 1;
  standing = steps_stand a.plan 1 m.made a.entries a.begun a.ended m.standing m.busy low;
  busy = m.busy;
  now = m.now;
}

-- each phase
step_facts : (a : Account) (phase : CallPhase) → a.phase ≡ phase → Stands a → moves_in phase ≡ true → a.plan.done + 1 < a.plan.bound
    → Stands (stepped a)
step_facts a Between e s moving low = no_net moving
step_facts a (Moving made) e s moving low = record {
  at_phase = rw e (quantum_step a made (at (Moving made) a e s) low);
  held = s.held;
  net = λ serving. s.net (rw e refl);
}
step_facts a Own e s moving low = no_net moving
step_facts a (Seeking chosen) e s moving low =
    record {
      at_phase = rw e (sought_step chosen a (Seeking chosen) (at (Seeking chosen) a e s) low);
      held = s.held;
      net = λ serving. s.net (rw e refl);
    }
step_facts a Choosing e s moving low = no_net moving
step_facts a Sought e s moving low = no_net moving
step_facts a Leaving e s moving low =
    record {
      at_phase = rw e (sought_step false a Leaving (at Leaving a e s) low);
      held = s.held;
      net = λ serving. no_net (rw e at serving);
    }
step_facts a Clearing e s moving low = no_net moving
step_facts a Shedding e s moving low =
    let c = at Shedding a e s in
    record {
      at_phase = rw e (record { sizes = c.sizes; room = c.room; spares = c.spares; giving = c.giving; now = c.now });
      held = s.held;
      net = λ serving. no_net (rw e at serving);
    }
step_facts a Resting e s moving low = no_net moving
step_facts a Joining e s moving low = no_net moving
step_facts a Returning e s moving low =
    let c = at Returning a e s in
    record {
      at_phase = rw e (record { sizes = c.sizes; taking = c.taking; none = c.none; few = c.few; now = c.now; broken = c.broken });
      held = s.held;
      net = λ serving. no_net (rw e at serving);
    }

-- the last step of a transfer
ready_rests : (x : Numbers) (entries begun ended : ℕ) → Ready x entries begun ended → is_idle x.pending ≡ true
    → Standing x 0 entries begun ended
ready_rests x entries begun ended r idle = grind (arith, nat_tests)

end_idle : (found : Bool) (x : Numbers) → is_idle (after_end found x).pending ≡ true
end_idle found x = grind (arith, nat_tests)

-- a search has a block after its own transfer, unless that is a take which found nothing
end_finds : (x : Numbers) (found : Bool) (made entries begun ended : ℕ) → Standing x made entries begun ended → is_idle x.pending ≡ false
    → begun ≡ entries
    → source_of (after_end found x) ≡ Nothing
    → ((after_end found x).dry ≡ true) × ((if is_taking x.pending then begun else ended) ≡ entries)
end_finds x found made entries begun ended s busy now none =
    (grind (arith, nat_tests, one_more_few x.spares), grind (arith, nat_tests, one_more_few x.spares))

-- or with nothing pending, where no transfer is due
rest_finds : (x : Numbers) → is_idle (after_choice x).pending ≡ true → is_idle x.pending ≡ true → source_of (after_choice x) ≢ Nothing
rest_finds x idle rest = λ none. grind (arith, nat_tests)

ended_ready : (found : Bool) (a : Account) (made : ℕ) → Standing a.plan made a.entries a.begun a.ended → is_idle a.plan.pending ≡ false
    → Ready (after_end found (after_steps 1 a.plan)) a.entries a.begun (last_take a)
ended_ready found a made s busy = rw (end_steps a.plan found 1) (end_ready a.plan found made a.entries a.begun a.ended s busy)

ended_net : (a : Account) (found : Bool) (made : ℕ) → Standing a.plan made a.entries a.begun a.ended
    → 2 * a.plan.length + a.backs ≤ stock a.plan + a.gots
    → 2 * (after_end found (after_steps 1 a.plan)).length + a.backs ≤ stock (after_end found (after_steps 1 a.plan)) + a.gots
ended_net a found made t net =
    rw (end_steps a.plan found 1)
    (end_net a.plan found a.gots a.backs (standing_spares a.plan made a.entries a.begun a.ended t) net)

cleared : (x : Numbers) (entries begun ended : ℕ) → Ready x entries begun ended → is_idle x.pending ≡ true → x.spares ≤ 3
cleared x entries begun ended r idle = r.idle_spares idle

shed : (found : Bool) (x : Numbers) → is_giving x.pending ≡ true
    → ((after_end found (after_steps 1 x)).spares ≡ x.spares) × ((after_end found (after_steps 1 x)).current ≡ x.current)
shed found x giving = (grind (arith, nat_tests), grind (arith, nat_tests))

came_back : (x : Numbers) (found : Bool) (entries begun ended : ℕ) → AreSizes x.length x.bound x.quantum → is_taking x.pending ≡ true
    → x.spares ≡ 0 → x.current < x.length → begun ≡ entries
    → Standing (after_end found x) 0 entries begun (if is_taking x.pending then begun else ended)
came_back x found entries begun ended sizes taking none few now = grind (arith, nat_tests, one_more_few x.spares)

sizes_of_end : (found : Bool) (x : Numbers) → AreSizes x.length x.bound x.quantum
    → AreSizes (after_end found (after_steps 1 x)).length (after_end found (after_steps 1 x)).bound
    (after_end found (after_steps 1 x)).quantum
sizes_of_end found x h = grind (arith, nat_tests)

end_facts : (a : Account) (found : Bool) (phase : CallPhase) → a.phase ≡ phase → Stands a → moves_in phase ≡ true
    → Stands (ended_with found a)
end_facts a found Between e s moving = no_net moving
end_facts a found (Moving made) e s moving =
    let m = at (Moving made) a e s in
    record {
      at_phase = rw e (ended_ready found a made m.standing m.busy);
      held = s.held;
      net = λ serving u. ended_net a found made m.standing (s.net (rw e refl) u);
    }
end_facts a found Own e s moving = no_net moving
end_facts a found (Seeking true) e s moving =
    let m = at (Seeking true) a e s in
    record {
      at_phase = rw e (record {
        ready = ended_ready found a m.made m.standing m.busy;
        now = rw (end_steps a.plan found 1)
            (end_finds a.plan found m.made a.entries a.begun a.ended m.standing m.busy (m.now refl));
      });
      held = s.held;
      net = λ serving u. ended_net a found m.made m.standing (s.net (rw e refl) u);
    }
end_facts a found (Seeking false) e s moving =
    let m = at (Seeking false) a e s in
    let x = after_end found (after_steps 1 a.plan) in
    let idle = end_idle found (after_steps 1 a.plan) in
    record {
      at_phase = rw e (record {
        standing = ready_rests x a.entries a.begun (last_take a) (ended_ready found a m.made m.standing m.busy) idle;
        idle = idle;
      });
      held = s.held;
      net = λ serving u. ended_net a found m.made m.standing (s.net (rw e refl) u);
    }
end_facts a found Choosing e s moving = no_net moving
end_facts a found Sought e s moving = no_net moving
end_facts a found Leaving e s moving =
    let m = at Leaving a e s in
    let x = after_end found (after_steps 1 a.plan) in
    let idle = end_idle found (after_steps 1 a.plan) in
    let r = ended_ready found a m.made m.standing m.busy in
    record {
      at_phase = rw e (record { sizes = r.sizes; room = r.room; spares = r.idle_spares idle; idle = idle });
      held = s.held;
      net = λ serving. no_net (rw e at serving);
    }
end_facts a found Clearing e s moving = no_net moving
end_facts a found Shedding e s moving =
    let c = at Shedding a e s in
    let k = shed found a.plan c.giving in
    record {
      at_phase = rw e (record {
        sizes = sizes_of_end found a.plan c.sizes;
        room = rw k.1 (rw (end_sizes (after_steps 1 a.plan) found).0 c.room);
        spares = rw k.0 (let few = c.spares in omega arith);
        idle = end_idle found (after_steps 1 a.plan);
      });
      held = s.held;
      net = λ serving. no_net (rw e at serving);
    }
end_facts a found Resting e s moving = no_net moving
end_facts a found Joining e s moving = no_net moving
end_facts a found Returning e s moving =
    let c = at Returning a e s in
    record {
      at_phase = rw e (record {
        standing = rw (end_steps a.plan found 1)
            (came_back a.plan found a.entries a.begun a.ended c.sizes c.taking c.none c.few c.now);
        late = λ busy. no_net (sym busy ∙ end_idle found (after_steps 1 a.plan));
      });
      held = s.held;
      net = λ serving u. no_net (sym c.broken ∙ u);
    }

-- the own step of an allocate or a search
own_ready : (a : Account) (phase : CallPhase) → a.phase ≡ phase → Stands a → asks_in phase ≡ true
    → Ready a.plan a.entries a.begun a.ended × (serves phase ≡ true)
own_ready a Own e s asks = (at Own a e s, refl)
own_ready a Sought e s asks = (let l = at Sought a e s in l.ready, refl)
own_ready a Between e s asks = no_net asks
own_ready a (Moving made) e s asks = no_net asks
own_ready a (Seeking chosen) e s asks = no_net asks
own_ready a Choosing e s asks = no_net asks
own_ready a Leaving e s asks = no_net asks
own_ready a Clearing e s asks = no_net asks
own_ready a Shedding e s asks = no_net asks
own_ready a Resting e s asks = no_net asks
own_ready a Joining e s asks = no_net asks
own_ready a Returning e s asks = no_net asks

took_waits : (x : Numbers) (entries begun ended : ℕ) → Ready x entries begun ended → is_idle (after_took_one x).pending ≡ false
    → begun < entries + 1
took_waits x entries begun ended r busy = grind (arith, nat_tests)

gave_waits : (x : Numbers) (entries begun ended : ℕ) → Ready x entries begun ended → is_idle (after_gave_one x).pending ≡ false
    → begun < entries + 1
gave_waits x entries begun ended r busy = grind (arith, nat_tests)

-- a search with nothing pending chooses
choosing : (a : Account) (phase : CallPhase) → a.phase ≡ phase → Stands a → chooses_in phase ≡ true
    → Standing a.plan 0 a.entries a.begun a.ended × (serves phase ≡ true)
choosing a Between e s chooses = (let w = at Between a e s in w.standing, refl)
choosing a Choosing e s chooses = (let w = at Choosing a e s in w.standing, refl)
choosing a (Moving made) e s chooses = no_net chooses
choosing a Own e s chooses = no_net chooses
choosing a (Seeking chosen) e s chooses = no_net chooses
choosing a Sought e s chooses = no_net chooses
choosing a Leaving e s chooses = no_net chooses
choosing a Clearing e s chooses = no_net chooses
choosing a Shedding e s chooses = no_net chooses
choosing a Resting e s chooses = no_net chooses
choosing a Joining e s chooses = no_net chooses
choosing a Returning e s chooses = no_net chooses

seek_at : (a : Account) (t : Bool) → is_idle (after_choice a.plan).pending ≡ t → Standing a.plan 0 a.entries a.begun a.ended
    → is_idle a.plan.pending ≡ true
    → (a.unbroken ≡ true → a.backs ≤ a.gots) → (a.unbroken ≡ true → 2 * a.plan.length + a.backs ≤ stock a.plan + a.gots)
    → Stands (sought_by t a)
seek_at a true e t idle held net = record {
  at_phase = record {
    ready = choice_ready a.plan a.entries a.begun a.ended t e;
    now = λ none. absurd (rest_finds a.plan e idle none);
  };
  held = held;
  net = λ _ u. choice_net a.plan a.gots a.backs (held u) (net u);
}
seek_at a false e t idle held net = record {
  at_phase = record {
    made = 0;
    standing = choice_stands a.plan a.entries a.begun a.ended t idle;
    busy = e;
    now = λ _. refl;
  };
  held = held;
  net = λ _ u. choice_net a.plan a.gots a.backs (held u) (net u);
}

-- a retire
given_one : (x : Numbers) → x.spares ≤ 3 → 0 < x.spares → (after_begin Giving x).spares ≤ 2
given_one x few some = grind (arith, nat_tests)

shelved_one : (x : Numbers) → x.spares ≡ 0 → (after_shelved x).spares ≤ 3
shelved_one x none = grind (arith, nat_tests, one_more_few x.spares)

-- each step of the schedule keeps the facts
pub step_stands : (a b : Account) → Stands a → Follows a b → Stands b
step_stands a b s (begins e idle busy) =
    let w = at Between a e s in
    let next = choice_stands a.plan a.entries a.begun a.ended w.standing idle in
    record {
      at_phase = record { standing = next; busy = busy; few = some_of (after_choice a.plan) next.sizes };
      held = s.held;
      net = λ _ u. choice_net a.plan a.gots a.backs (s.held u) (s.net (ap serves e) u);
    }
step_stands a b s (continues e busy) =
    let w = at Between a e s in
    let same = sym (choice_busy a.plan busy) in
    let next = subst (λ x. Standing x 0 a.entries a.begun a.ended) same w.standing in
    record {
      at_phase = record {
        standing = next;
        busy = subst (λ x. is_idle x.pending ≡ false) same busy;
        few = some_of (after_choice a.plan) next.sizes;
      };
      held = s.held;
      net = λ _ u. choice_net a.plan a.gots a.backs (s.held u) (s.net (ap serves e) u);
    }
step_stands a b s (idles e idle) =
    let w = at Between a e s in
    record {
      at_phase = choice_ready a.plan a.entries a.begun a.ended w.standing idle;
      held = s.held;
      net = λ _ u. choice_net a.plan a.gots a.backs (s.held u) (s.net (ap serves e) u);
    }
step_stands a b s (moves moving low) = step_facts a a.phase refl s moving low
step_stands a b s (ends found moving low giving) = end_facts a found a.phase refl s moving
step_stands a b s (gets asks some) =
    let (r, serving) = own_ready a a.phase refl s asks in
    record {
      at_phase = record {
        standing = took_stands a.plan a.entries a.begun a.ended r;
        late = took_waits a.plan a.entries a.begun a.ended r;
      };
      held = λ u. omega (arith, s.held u);
      net = λ _ u. took_net a.plan a.gots a.backs some r.sizes.long (s.net serving u);
    }
step_stands a b s (refuses asks none) =
    let (r, serving) = own_ready a a.phase refl s asks in
    record {
      at_phase = record {
        standing = took_stands a.plan a.entries a.begun a.ended r;
        late = took_waits a.plan a.entries a.begun a.ended r;
      };
      held = s.held;
      net = λ _ u. refused_net a.plan a.gots a.backs none (s.net serving u);
    }
step_stands a b s (frees e held) =
    let r = at Own a e s in
    record {
      at_phase = record {
        standing = gave_stands a.plan a.entries a.begun a.ended r;
        late = gave_waits a.plan a.entries a.begun a.ended r;
      };
      held = λ u. omega (arith, held u);
      net = λ _ u. gave_net a.plan a.gots a.backs (ready_spares a.plan a.entries a.begun a.ended r) r.room (s.net (ap serves e) u);
    }
step_stands a b s (meets e busy) =
    let w = at Between a e s in
    record {
      at_phase = record { made = 0; standing = w.standing; busy = busy; now = λ f. no_net f };
      held = s.held;
      net = λ _ u. s.net (ap serves e) u;
    }
step_stands a b s (seeks chooses idle) =
    let (t, serving) = choosing a a.phase refl s chooses in
    seek_at a (is_idle (after_choice a.plan).pending) refl t idle s.held (s.net serving)
step_stands a b s (quits e busy) =
    let w = at Between a e s in
    record { at_phase = record { made = 0; standing = w.standing; busy = busy; now = λ f. no_net f }; held = s.held; net = no_net }
step_stands a b s (clears e idle) =
    let w = at Between a e s in
    let t = w.standing in
    record { at_phase = record { sizes = t.sizes; room = t.room; spares = t.idle_spares idle; idle = idle }; held = s.held; net = no_net }
step_stands a b s (gives e some) =
    let c = at Clearing a e s in
    record {
      at_phase = record { sizes = c.sizes; room = c.room; spares = given_one a.plan c.spares some; giving = refl; now = refl };
      held = s.held;
      net = no_net;
    }
step_stands a b s (shelves e none full) =
    let c = at Clearing a e s in
    record {
      at_phase = rw e (record { sizes = c.sizes; room = omega arith; spares = shelved_one a.plan none; idle = c.idle });
      held = s.held;
      net = λ serving. no_net (rw e at serving);
    }
step_stands a b s (retires e none few) =
    let c = at Clearing a e s in
    record {
      at_phase = record { sizes = c.sizes; idle = c.idle; none = none; few = few; broken = refl };
      held = no_net;
      net = no_net;
    }
step_stands a b s (enlists e) =
    let r = at Resting a e s in
    record {
      at_phase = record { sizes = r.sizes; idle = r.idle; none = r.none; few = r.few; broken = r.broken };
      held = s.held;
      net = no_net;
    }
step_stands a b s (retakes e) =
    let r = at Joining a e s in
    record {
      at_phase = record { sizes = r.sizes; taking = refl; none = r.none; few = r.few; now = refl; broken = r.broken };
      held = s.held;
      net = no_net;
    }

-- so every account that is reached stands
pub reached_stands : (length bound quantum : ℕ) (a : Account) → AreSizes length bound quantum → Reached length bound quantum a → Stands a
reached_stands length bound quantum a sizes opens = record {
  at_phase = record { standing = opening_stands length bound quantum sizes; late = λ busy. no_net (sym busy) };
  held = λ u. omega arith;
  net = λ _ u. omega arith;
}
reached_stands length bound quantum b sizes (follows {a = a} r f) = step_stands a b (reached_stands length bound quantum a sizes r) f

-- the sizes stay
seek_sizes : (length bound quantum : ℕ) (a : Account) (t : Bool) → HasSizes length bound quantum a.plan
    → HasSizes length bound quantum (sought_by t a).plan
seek_sizes length bound quantum a true h = let k = choice_sizes a.plan in (k.0 ∙ h.0, k.1 ∙ h.1, k.2 ∙ h.2)
seek_sizes length bound quantum a false h = let k = choice_sizes a.plan in (k.0 ∙ h.0, k.1 ∙ h.1, k.2 ∙ h.2)

step_sizes : (length bound quantum : ℕ) (a b : Account)
    → HasSizes length bound quantum a.plan
    → Follows a b
    → HasSizes length bound quantum b.plan
step_sizes length bound quantum a b h (begins e idle busy) = let k = choice_sizes a.plan in (k.0 ∙ h.0, k.1 ∙ h.1, k.2 ∙ h.2)
step_sizes length bound quantum a b h (continues e busy) = let k = choice_sizes a.plan in (k.0 ∙ h.0, k.1 ∙ h.1, k.2 ∙ h.2)
step_sizes length bound quantum a b h (idles e idle) = let k = choice_sizes a.plan in (k.0 ∙ h.0, k.1 ∙ h.1, k.2 ∙ h.2)
step_sizes length bound quantum a b h (moves moving low) = h
step_sizes length bound quantum a b h (ends found moving low giving) =
    let k = end_sizes (after_steps 1 a.plan) found in (k.0 ∙ h.0, k.1 ∙ h.1, k.2 ∙ h.2)
step_sizes length bound quantum a b h (gets asks some) = let k = took_sizes a.plan in (k.0 ∙ h.0, k.1 ∙ h.1, k.2 ∙ h.2)
step_sizes length bound quantum a b h (refuses asks none) = let k = took_sizes a.plan in (k.0 ∙ h.0, k.1 ∙ h.1, k.2 ∙ h.2)
step_sizes length bound quantum a b h (frees e held) = let k = gave_sizes a.plan in (k.0 ∙ h.0, k.1 ∙ h.1, k.2 ∙ h.2)
step_sizes length bound quantum a b h (meets e busy) = h
step_sizes length bound quantum a b h (seeks chooses idle) =
    seek_sizes length bound quantum a (is_idle (after_choice a.plan).pending) h
step_sizes length bound quantum a b h (quits e busy) = h
step_sizes length bound quantum a b h (clears e idle) = h
step_sizes length bound quantum a b h (gives e some) = h
step_sizes length bound quantum a b h (shelves e none full) = h
step_sizes length bound quantum a b h (retires e none few) = h
step_sizes length bound quantum a b h (enlists e) = h
step_sizes length bound quantum a b h (retakes e) = h

-- a reached plan has the sizes of its opening
pub reached_sizes : (length bound quantum : ℕ) (a : Account) → Reached length bound quantum a → HasSizes length bound quantum a.plan
reached_sizes length bound quantum a opens = (refl, refl, refl)
reached_sizes length bound quantum b (follows {a = a} r f) = step_sizes length bound quantum a b (reached_sizes length bound quantum a r) f
