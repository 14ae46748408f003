-- a process at the transfer steps of a call, and where it stands after one
use Rattle.std.proofs.Common.{◌≡◌, ◌≢◌, ℕ, ◌+◌, ◌<◌, true, false, length, sym, ◌∙◌, ap, arith, refl}
use Rattle.std.specs.Prelude.{Bool, not, ◌&&◌, Option, None, Some}
use Rattle.std.proofs.lemmas.Bool.Decides.{nat_tests}
use Rattle.word_layout.specs.Sizes.{Sizes}
use Rattle.transfer_schedule.specs.Account.{Account}
use Rattle.transfer_schedule.specs.Account as schedule
use Rattle.transfer_machine.specs.Stages.{is_rest}
use Rattle.pool_machine.specs.declared.call.CallView.{CallView}
use Rattle.pool_machine.specs.declared.call.Call.{Call}
use Rattle.pool_machine.specs.declared.call.Call.TheVariants.{Allocate, Free, Read, Write, Search}
use Rattle.pool_machine.specs.declared.call.CallStage.TheVariants.{Between, Choosing, Moving}
use Rattle.pool_machine.specs.declared.call.Way.TheVariants.{Fresh, Alone}
use Rattle.transfer_machine.specs.declared.stage.NextStep.{NextStep}
use Rattle.transfer_machine.specs.declared.stage.NextStep.TheVariants.{Rest}
use Rattle.pool_machine.specs.declared.view.ProcessView.{ProcessView}
use Rattle.transfer_invariant.specs.Progress.{has_announced}
use Rattle.pool_machine.specs.Steps.{is_paced, stage_after, steps_after, move_counted}
use Rattle.pool_invariant.specs.Holds.{PoolRuns}
use Rattle.history_invariant.specs.Ledger.{Ledger}
use Rattle.call_invariant.specs.Phases.{changes_pool, own_phase, moving_phase, may_choose_at, call_phase_at, call_phase}
use Rattle.call_invariant.specs.InCalls.{StageFits, MayChoose, InCalls}
use Rattle.call_invariant.proofs.Standing.{runs_with_calls}

-- a view at a transfer step of a call
pub record Moves (sizes : Sizes) (v : ProcessView) (g : Ledger) : Type 0 where
  pub alone : v.calls.way ≢ Alone
  pub fresh : v.calls.way ≢ Fresh
  pub changes : changes_pool v.calls.call ≡ true
  pub few : is_paced v.calls.call ≡ true → v.calls.steps < sizes.quantum
  pub plan : g.account.plan ≡ v.pool.plan
  pub phase : g.account.phase ≡ moving_phase (is_paced v.calls.call) v.calls.chosen v.calls.steps
  pub runs : PoolRuns sizes v
  pub heads : length v.pool.heads ≡ v.pool.plan.spares
  pub announced : has_announced v.transfer.next ≡ true → 0 < v.pool.plan.done
  pub choice : may_choose_at v.calls Moving ≡ true → MayChoose sizes v

-- the phase of a call in its transfer steps is one in which a transfer moves
pub moving_moves : (paced chosen : Bool) (steps : ℕ) → schedule.moves_in (moving_phase paced chosen steps) ≡ true
moving_moves true chosen steps = refl
moving_moves false chosen steps = refl

-- so is the phase of its account
pub moves_now : (sizes : Sizes) (v : ProcessView) (g : Ledger) → Moves sizes v g → schedule.moves_in g.account.phase ≡ true
moves_now sizes v g m = rw m.phase (moving_moves (is_paced v.calls.call) v.calls.chosen v.calls.steps)

-- a process in a call is no longer fresh
pub not_fresh : (sizes : Sizes) (i : ℕ) (v : ProcessView) (g : Ledger) → InCalls sizes i v g → v.calls.stage ≢ Between → v.calls.way ≢ Fresh
not_fresh sizes i v g h ne = λ e. (let f = h.fresh e in ne (ap (λ x. x.calls.stage) f.view))

-- a call in its transfer steps has all that these need
pub moves_at : (sizes : Sizes) (i : ℕ) (v : ProcessView) (g : Ledger) → InCalls sizes i v g → v.calls.stage ≡ Moving → Moves sizes v g
moves_at sizes i v g h e = record {
  alone = h.way;
  fresh = not_fresh sizes i v g h (λ between. apart (sym e ∙ between));
  changes = h.stage.changes e;
  few = h.stage.few e;
  plan = h.plan;
  phase = h.phase ∙ ap (call_phase_at v.calls) e;
  runs = h.runs;
  heads = h.heads;
  announced = h.announced;
  choice = λ choice. h.choice (rw e choice);
}
  where
    apart : Moving ≡ Between → ⊥
    apart e = cc

-- the stage after a step
after_not_between : (paced chosen : Bool) (quantum steps : ℕ) (next : NextStep) → stage_after paced chosen quantum steps next ≢ Between
after_not_between true chosen quantum steps next = λ e. grind (arith, nat_tests)
after_not_between false chosen quantum steps next = λ e. grind (arith, nat_tests)

after_moving : (paced chosen : Bool) (quantum steps : ℕ) (next : NextStep) → stage_after paced chosen quantum steps next ≡ Moving
    → (is_rest next ≡ false) × (paced ≡ true → steps + 1 ≢ quantum)
after_moving true chosen quantum steps next e = grind (arith, nat_tests)
after_moving false chosen quantum steps next e = (grind (arith, nat_tests), λ paced. cc)

after_choosing : (paced chosen : Bool) (quantum steps : ℕ) (next : NextStep) → stage_after paced chosen quantum steps next ≡ Choosing
    → (paced ≡ false) × (next ≡ Rest)
after_choosing true chosen quantum steps next e = grind (arith, nat_tests)
after_choosing false chosen quantum steps next e = (refl, grind (arith, nat_tests))

rest_is_rest : (next : NextStep) → is_rest next ≡ false → next ≢ Rest
rest_is_rest next e = λ rest. grind arith

changing_is_some : (call : Option Call) → changes_pool call ≡ true → call ≢ None
changing_is_some call e = λ none. grind arith

-- only a search makes more steps than a quantum
pub unpaced_searches : (call : Option Call) → is_paced call ≡ false → call ≡ Some Search
unpaced_searches None e = cc
unpaced_searches (Some Allocate) e = cc
unpaced_searches (Some (Free block)) e = cc
unpaced_searches (Some (Read block index)) e = cc
unpaced_searches (Some (Write block index value)) e = cc
unpaced_searches (Some Search) e = refl

-- what the process keeps of its call after one more step, which left the transfer at this one
abbrev pub calls_counted : ℕ → NextStep → CallView → CallView
calls_counted quantum next calls = record calls {
  stage = stage_after (is_paced calls.call) calls.chosen quantum calls.steps next;
  steps = steps_after (is_paced calls.call) calls.steps;
}

paced_steps : (paced : Bool) (steps quantum : ℕ) → paced ≡ true → (paced ≡ true → steps < quantum) → steps + 1 ≢ quantum
    → steps_after paced steps < quantum
paced_steps true steps quantum e few ne = let lt = few refl in omega (arith, ne, lt)
paced_steps false steps quantum e few ne = cc

counted_stage : (quantum : ℕ) (calls : CallView) (next : NextStep) → changes_pool calls.call ≡ true
    → (is_paced calls.call ≡ true → calls.steps < quantum)
    → StageFits quantum (calls_counted quantum next calls) next
counted_stage quantum calls next changes few =
    let paced = is_paced calls.call in
    record {
      none = λ e. absurd (after_not_between paced calls.chosen quantum calls.steps next e);
      changes = λ e. changes;
      pending = λ e. rest_is_rest next (after_moving paced calls.chosen quantum calls.steps next e).0;
      few = λ e p. paced_steps paced calls.steps quantum p few ((after_moving paced calls.chosen quantum calls.steps next e).1 p);
      some = λ e. changing_is_some calls.call changes;
      searches = λ e. unpaced_searches calls.call (after_choosing paced calls.chosen quantum calls.steps next e).0;
      rests = λ e. (after_choosing paced calls.chosen quantum calls.steps next e).1;
    }

-- the phase after a step that goes on, and after the last one
pub phase_goes : (quantum : ℕ) (calls : CallView) (next : NextStep) → changes_pool calls.call ≡ true → is_rest next ≡ false
    → schedule.stepped_in quantum (moving_phase (is_paced calls.call) calls.chosen calls.steps)
    ≡ call_phase_at (calls_counted quantum next calls) (calls_counted quantum next calls).stage
phase_goes quantum calls next changes busy = by_pace (is_paced calls.call) refl
  where
    paced_phase : (call : Option Call) → changes_pool call ≡ true → is_paced call ≡ true → own_phase call ≡ schedule.Own
    paced_phase None e p = cc
    paced_phase (Some Allocate) e p = refl
    paced_phase (Some (Free block)) e p = refl
    paced_phase (Some (Read block index)) e p = cc
    paced_phase (Some (Write block index value)) e p = cc
    paced_phase (Some Search) e p = cc

    by_pace : (p : Bool) → is_paced calls.call ≡ p
        → schedule.stepped_in quantum (moving_phase p calls.chosen calls.steps)
        ≡ call_phase_at (record calls { stage = stage_after p calls.chosen quantum calls.steps next; steps = steps_after p calls.steps })
        (stage_after p calls.chosen quantum calls.steps next)
    by_pace true e = let own = paced_phase calls.call changes e in grind (arith, nat_tests)
    by_pace false e = rw busy (rw e refl)

-- the last transfer step of a call leads to the phase that the schedule says
pub phase_ends : (quantum : ℕ) (calls : CallView) → changes_pool calls.call ≡ true
    → schedule.ended_in (moving_phase (is_paced calls.call) calls.chosen calls.steps)
    ≡ call_phase_at (calls_counted quantum Rest calls) (calls_counted quantum Rest calls).stage
phase_ends quantum calls changes = by_pace (is_paced calls.call) calls.chosen refl
  where
    paced_phase : (call : Option Call) → changes_pool call ≡ true → is_paced call ≡ true → own_phase call ≡ schedule.Own
    paced_phase None e p = cc
    paced_phase (Some Allocate) e p = refl
    paced_phase (Some (Free block)) e p = refl
    paced_phase (Some (Read block index)) e p = cc
    paced_phase (Some (Write block index value)) e p = cc
    paced_phase (Some Search) e p = cc

    by_pace : (p c : Bool) → is_paced calls.call ≡ p
        → schedule.ended_in (moving_phase p c calls.steps)
        ≡ call_phase_at (record calls { stage = stage_after p c quantum calls.steps Rest; steps = steps_after p calls.steps })
        (stage_after p c quantum calls.steps Rest)
    by_pace true c e = let own = paced_phase calls.call changes e in grind (arith, nat_tests)
    by_pace false true e = rw (unpaced_searches calls.call e) refl
    by_pace false false e = refl

-- a search that hasn't chosen keeps its age in the steps of the transfer that it met
still_open : (paced chosen : Bool) (quantum steps : ℕ) (next : NextStep) (calls : CallView) → is_paced calls.call ≡ paced
    → calls.chosen ≡ chosen
    → may_choose_at calls (stage_after paced chosen quantum steps next) ≡ true → (not paced && not chosen) ≡ true
still_open true chosen quantum steps next calls e f choice = grind (arith, nat_tests)
still_open false true quantum steps next calls e f choice = grind (arith, nat_tests)
still_open false false quantum steps next calls e f choice = refl

-- the view after a step, with a ledger that has gone on
pub counted_calls : (sizes : Sizes) (i : ℕ) (v x : ProcessView) (g new : Ledger) → Moves sizes v g → x.calls ≡ v.calls
    → new.account.plan ≡ x.pool.plan
    → new.account.phase ≡ call_phase (move_counted sizes x)
    → PoolRuns sizes x
    → length x.pool.heads ≡ x.pool.plan.spares
    → (has_announced x.transfer.next ≡ true → 0 < x.pool.plan.done)
    → (MayChoose sizes v → MayChoose sizes x)
    → InCalls sizes i (move_counted sizes x) new
counted_calls sizes i v x g new m same plan phase runs heads sent choice =
    let calls : changes_pool x.calls.call ≡ true = rw same m.changes in
    let few : is_paced x.calls.call ≡ true → x.calls.steps < sizes.quantum = rw same m.few in
    record {
      way = λ e. m.alone (ap (λ c. c.way) (sym same) ∙ e);
      plan = plan;
      phase = phase;
      runs = runs_with_calls sizes x _ runs;
      heads = heads;
      announced = sent;
      stage = counted_stage sizes.quantum x.calls x.transfer.next calls few;
      choice = λ e.
          let now = still_open (is_paced x.calls.call) x.calls.chosen sizes.quantum x.calls.steps x.transfer.next
          (calls_counted sizes.quantum x.transfer.next x.calls) refl refl e in
          let was : may_choose_at v.calls Moving ≡ true = rw same at now in
          let k = choice (m.choice was) in
          record { young = k.young; announced = k.announced };
      fresh = λ e. absurd (m.fresh (ap (λ c. c.way) (sym same) ∙ e));
    }
