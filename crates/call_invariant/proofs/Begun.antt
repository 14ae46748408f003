-- a process begins a call
use Rattle.std.proofs.Common.{◌≡◌, ◌≢◌, ℕ, ◌-◌, ◌<◌, ◌≤◌, Bool, true, false, List, length, refl, sym, ◌∙◌, ap, arith, rules}
use Rattle.std.proofs.lemmas.Bool.{false≢true}
use Rattle.std.specs.Prelude.{if◌then◌else◌, Option, None, Some, take}
use Rattle.std.proofs.lemmas.Bool.Decides.{nat_tests}
use Rattle.std.proofs.lemmas.List.{length-take-le}
use Rattle.word_layout.specs.Packing.{most_age}
use Rattle.word_layout.specs.Sizes.{Sizes}
use Rattle.word_layout.specs.declared.announced.Wish.{Wish}
use Rattle.word_layout.specs.declared.announced.Wish.TheVariants.{Take, Give}
use Rattle.transfer_schedule.specs.Numbers.{Numbers, is_idle, after_choice}
use Rattle.transfer_schedule.specs.Numbers as numbers
use Rattle.transfer_schedule.specs.declared.pending.Pending.TheVariants.{Idle}
use Rattle.transfer_schedule.specs.Account.{Account}
use Rattle.transfer_schedule.specs.Account as schedule
use Rattle.transfer_schedule.proofs.Operations.{idle_is, busy_not_idle}
use Rattle.pool_machine.specs.Pools.{view_begun, MayBegin}
use Rattle.pool_machine.specs.declared.call.Call.{Call}
use Rattle.pool_machine.specs.declared.call.Call.TheVariants.{Allocate, Free, Read, Write, Search}
use Rattle.pool_machine.specs.declared.call.CallStage.TheVariants.{Between, Choosing, Moving, Own}
use Rattle.pool_machine.specs.declared.call.Way.TheVariants.{Calls}
use Rattle.transfer_machine.specs.declared.stage.NextStep.{NextStep}
use Rattle.transfer_machine.specs.declared.stage.NextStep.TheVariants.{Rest, Announce}
use Rattle.pool_machine.specs.declared.view.PoolView.{PoolView}
use Rattle.pool_machine.specs.declared.view.ProcessView.{ProcessView}
use Rattle.transfer_invariant.specs.Progress.{has_announced, is_moving}
use Rattle.pool_machine.specs.Beginning.{newest, due, begun_if_due, before_call, first_stage, entered, search_chosen}
use Rattle.pool_machine.specs.Beginning.{search_begun_by, call_begun}
use Rattle.pool_machine.specs.Steps.{is_paced}
use Rattle.pool_machine.specs.Conditions.{HasAgeFor, IsYoungFor}
use Rattle.pool_machine.proofs.Plans.{choice_is_the_plans}
use Rattle.pool_invariant.specs.Kept.{PoolKept}
use Rattle.pool_invariant.specs.Holds.{PoolRuns}
use Rattle.history_invariant.specs.Ledger.{Ledger}
use Rattle.history_invariant.specs.Steps.{GoesOn}
use Rattle.history_invariant.specs.Steps as steps
use Rattle.call_invariant.specs.Phases.{changes_pool, own_phase, moving_phase, may_choose_at, call_phase_at}
use Rattle.call_invariant.specs.Ledgers.{account_begun_by, account_begun, account_searching, ledger_begun, ledger_chosen}
use Rattle.call_invariant.specs.InCalls.{Scheduled, InCalls, CarriesOn}
use Rattle.call_invariant.proofs.Standing.{some_quantum, idle_rests, runs_with_calls}
use Rattle.transfer_schedule.proofs.AtPhase.{stands_waits}
use Rattle.transfer_schedule.proofs.Reaching.{reached_stands}
use Rattle.transfer_schedule.specs.declared.pending.Pending.TheVariants.{Idle}

-- the transfer that is due is one that may begin, and it is due only while nothing is pending
due_take : (pool : PoolView) → due pool ≡ Some Take → pool.plan.spares ≤ 1
due_take pool e = grind (arith, nat_tests)

due_give : (pool : PoolView) (head : ℕ) → due pool ≡ Some (Give head) → (pool.plan.spares ≡ 3) × (newest pool ≡ head)
due_give pool head e = grind (arith, nat_tests)

-- the transfer that is due may begin
pub due_may_begin : (pool : PoolView) (wish : Wish) → length pool.heads ≡ pool.plan.spares → due pool ≡ Some wish → MayBegin wish pool
due_may_begin pool Take heads e = due_take pool e
due_may_begin pool (Give head) heads e = let (three, is) = due_give pool head e in (omega arith, omega arith, is)

-- what is due is no idleness
due_is_some : (pool : PoolView) (wish : Wish) → due pool ≡ Some wish → numbers.due pool.plan ≢ Idle
due_is_some pool wish e = λ idle. grind arith

due_idle : (pool : PoolView) (wish : Wish) → due pool ≡ Some wish → is_idle pool.plan.pending ≡ true
due_idle pool wish e = grind (arith, nat_tests)

-- where one is due, nothing is begun
pub due_rests : (sizes : Sizes) (v : ProcessView) (wish : Wish) → PoolKept sizes v → due v.pool ≡ Some wish → v.transfer.next ≡ Rest
due_rests sizes v wish h e = idle_rests sizes v h (idle_is v.pool.plan.pending (due_idle v.pool wish e))

-- the facts of the pool once a transfer is begun
pub runs_begun : (sizes : Sizes) (v : ProcessView) (wish : Wish) → PoolRuns sizes v → v.transfer.next ≡ Rest → MayBegin wish v.pool
    → v.transfer.age < most_age sizes → PoolRuns sizes (view_begun wish v)
runs_begun sizes v wish h rest may young = search rules

heads_begun : (v : ProcessView) (wish : Wish) → length v.pool.heads ≡ v.pool.plan.spares → MayBegin wish v.pool
    → length (view_begun wish v).pool.heads ≡ (view_begun wish v).pool.plan.spares
heads_begun v Take h may = h
heads_begun v (Give head) h may = one_fewer v.pool.heads v.pool.plan.spares h
  where
    one_fewer : (heads : List ℕ) (spares : ℕ) → length heads ≡ spares → length (take (length heads - 1) heads) ≡ spares - 1
    one_fewer heads spares e = length-take-le {A = ℕ} (length heads - 1) heads (omega arith) ∙ ap (λ n. n - 1) e

-- the view that enters a call
record Enters (sizes : Sizes) (x : ProcessView) : Type 0 where
  runs : PoolRuns sizes x
  heads : length x.pool.heads ≡ x.pool.plan.spares
  announced : has_announced x.transfer.next ≡ true → 0 < x.pool.plan.done

enters_if_due : (sizes : Sizes) (v : ProcessView) (wish : Option Wish) → due v.pool ≡ wish → HasAgeFor sizes v.pool.plan v.transfer.age
    → Enters sizes v → Enters sizes (begun_if_due wish v)
enters_if_due sizes v None e young h = h
enters_if_due sizes v (Some wish) e young h =
    let may = due_may_begin v.pool wish h.heads e in
    record {
      runs = runs_begun sizes v wish h.runs (due_rests sizes v wish h.runs.kept e) may (young (due_is_some v.pool wish e));
      heads = heads_begun v wish h.heads may;
      announced = λ announced. grind arith;
    }

-- an allocate or a free enters with its ledger
begun_pends : (s : NextStep) (t : Bool) → (is_moving s ≡ false → t ≡ true) → (if t then Own else Moving) ≡ Moving → s ≢ Rest
begun_pends s t idle e = λ rest. grind arith

begun_phase : (call : Call) (t : Bool) → changes_pool (Some call) ≡ true
    → (if t then own_phase (Some call) else moving_phase (is_paced (Some call)) true 0)
    ≡ call_phase_at (record { stage = if t then Own else Moving; call = Some call; steps = 0; chosen = true; way = Calls })
    (if t then Own else Moving)
begun_phase Allocate true e = refl
begun_phase Allocate false e = refl
begun_phase (Free block) true e = refl
begun_phase (Free block) false e = refl
begun_phase (Read block index) t e = grind arith
begun_phase (Write block index value) t e = grind arith
begun_phase Search true e = refl
begun_phase Search false e = refl

begun_stage : (t : Bool) → (if t then Own else Moving) ≢ Between
begun_stage true = λ e. grind arith
begun_stage false = λ e. grind arith

begun_chosen : (t : Bool) → (if t then Own else Moving) ≢ Choosing
begun_chosen true = λ e. cc
begun_chosen false = λ e. cc

none_left : (call : Call) (t : Bool)
    → may_choose_at (record { stage = if t then Own else Moving; call = Some call; steps = 0; chosen = true; way = Calls })
    (if t then Own else Moving) ≡ false
none_left call true = refl
none_left call false = grind arith

enters_call : (sizes : Sizes) (i : ℕ) (x : ProcessView) (call : Call) (g : Ledger) → changes_pool (Some call) ≡ true → 0 < sizes.quantum
    → g.account.plan ≡ x.pool.plan
    → g.account.phase ≡ (if is_idle x.pool.plan.pending then own_phase (Some call) else moving_phase (is_paced (Some call)) true 0)
    → Enters sizes x
    → InCalls sizes i (entered call (first_stage x) x) g
enters_call sizes i x call g changes some plan phase h = record {
  way = λ e. cc;
  plan = plan;
  phase = phase ∙ begun_phase call (is_idle x.pool.plan.pending) changes;
  runs = runs_with_calls sizes x _ h.runs;
  heads = h.heads;
  announced = h.announced;
  stage = record {
    none = λ e. absurd (begun_stage (is_idle x.pool.plan.pending) e);
    changes = λ e. changes;
    pending = λ e. begun_pends x.transfer.next (is_idle x.pool.plan.pending) (λ rest. ap is_idle (h.runs.kept.idle rest)) e;
    few = λ e paced. some;
    some = λ e. λ none. cc;
    searches = λ e. absurd (begun_chosen (is_idle x.pool.plan.pending) e);
    rests = λ e. absurd (begun_chosen (is_idle x.pool.plan.pending) e);
  };
  choice = λ e. absurd (false≢true (sym (none_left call (is_idle x.pool.plan.pending)) ∙ e));
  fresh = λ e. cc;
}

-- how its account goes on
begun_plan : (a : Account) (idle rests : Bool) → (account_begun_by idle rests a).plan ≡ after_choice a.plan
begun_plan a true true = refl
begun_plan a true false = refl
begun_plan a false true = refl
begun_plan a false false = refl

begun_account_phase : (a : Account) (idle rests : Bool)
    → (account_begun_by idle rests a).phase ≡ (if rests then schedule.Own else schedule.Moving 0)
begun_account_phase a true true = refl
begun_account_phase a true false = refl
begun_account_phase a false true = refl
begun_account_phase a false false = refl

still_between : (g : Ledger) → g.account.phase ≡ schedule.Between → schedule.moves_in g.account.phase ≡ false
still_between g between = rw between refl

begun_goes : (g : Ledger) (idle rests : Bool) → is_idle g.account.plan.pending ≡ idle
    → is_idle (after_choice g.account.plan).pending ≡ rests → g.account.phase ≡ schedule.Between
    → GoesOn g (record g { account = account_begun_by idle rests g.account })
begun_goes g true true idle rest between = steps.begins _ (still_between g between) refl (schedule.idles between rest)
begun_goes g true false idle busy between = steps.begins _ (still_between g between) refl (schedule.begins between idle busy)
begun_goes g false true busy rest between = steps.begins _ (still_between g between) refl (schedule.idles between rest)
begun_goes g false false busy still between = steps.begins _ (still_between g between) refl (schedule.continues between busy)

-- an allocate or a free begins
between_phase : (sizes : Sizes) (i : ℕ) (v : ProcessView) (g : Ledger) → InCalls sizes i v g → v.calls.stage ≡ Between
    → g.account.phase ≡ schedule.Between
between_phase sizes i v g h e = h.phase ∙ ap (call_phase_at v.calls) e

changing_begun : (sizes : Sizes) (i : ℕ) (v : ProcessView) (g : Ledger) (call : Call) → changes_pool (Some call) ≡ true
    → own_phase (Some call) ≡ schedule.Own → moving_phase (is_paced (Some call)) true 0 ≡ schedule.Moving 0 → 0 < sizes.quantum
    → v.calls.stage ≡ Between
    → HasAgeFor sizes v.pool.plan v.transfer.age
    → InCalls sizes i v g
    → CarriesOn sizes i (entered call (first_stage (before_call v)) (before_call v)) g (record g { account = account_begun g.account })
changing_begun sizes i v g call changes owns moves some between young h =
    let a = g.account in
    let x = before_call v in
    let chosen : after_choice a.plan ≡ x.pool.plan = ap after_choice h.plan ∙ sym (choice_is_the_plans v) in
    let idle = is_idle a.plan.pending in
    let rests = is_idle (after_choice a.plan).pending in
    record {
      goes = begun_goes g idle rests refl refl (between_phase sizes i v g h between);
      calls = enters_call sizes i x call (record g { account = account_begun a }) changes some
          (begun_plan a idle rests ∙ chosen)
          (rw (owns, moves)
          (begun_account_phase a idle rests ∙ ap (λ plan. if is_idle plan.pending then schedule.Own else schedule.Moving 0) chosen))
          (enters_if_due sizes v (due v.pool) refl young (record { runs = h.runs; heads = h.heads; announced = h.announced }));
    }

-- a search chooses
sought_plan : (a : Account) (t : Bool) → (schedule.sought_by t a).plan ≡ after_choice a.plan
sought_plan a true = refl
sought_plan a false = refl

sought_phase : (a : Account) (t : Bool) → (schedule.sought_by t a).phase ≡ (if t then schedule.Sought else schedule.Seeking true)
sought_phase a true = refl
sought_phase a false = refl

sought_entries : (a : Account) (t : Bool) → (schedule.sought_by t a).entries ≡ a.entries
sought_entries a true = refl
sought_entries a false = refl

chooses_still : (phase : schedule.CallPhase) → schedule.chooses_in phase ≡ true → schedule.moves_in phase ≡ false
chooses_still schedule.Between e = refl
chooses_still schedule.Choosing e = refl
chooses_still (schedule.Moving made) e = cc
chooses_still schedule.Own e = refl
chooses_still (schedule.Seeking chosen) e = cc
chooses_still schedule.Sought e = refl
chooses_still schedule.Leaving e = cc
chooses_still schedule.Clearing e = refl
chooses_still schedule.Shedding e = cc
chooses_still schedule.Resting e = refl
chooses_still schedule.Joining e = refl
chooses_still schedule.Returning e = cc

search_goes_on : (sizes : Sizes) (i : ℕ) (v : ProcessView) (g : Ledger) → 0 < sizes.quantum → schedule.chooses_in g.account.phase ≡ true
    → is_idle v.pool.plan.pending ≡ true → v.transfer.age < most_age sizes → InCalls sizes i v g
    → CarriesOn sizes i (search_chosen v) g (ledger_chosen g)
search_goes_on sizes i v g some chooses idle young h =
    let a = g.account in
    let x = before_call v in
    let chosen : after_choice a.plan ≡ x.pool.plan = ap after_choice h.plan ∙ sym (choice_is_the_plans v) in
    let t = is_idle (after_choice a.plan).pending in
    record {
      goes = steps.begins _ (chooses_still a.phase chooses) (sought_entries a t)
          (schedule.seeks chooses (ap (λ plan. is_idle plan.pending) h.plan ∙ idle));
      calls = enters_call sizes i x Search (ledger_chosen g) refl some
          (sought_plan a t ∙ chosen)
          (sought_phase a t ∙ ap (λ plan. if is_idle plan.pending then schedule.Sought else schedule.Seeking true) chosen)
          (enters_if_due sizes v (due v.pool) refl (λ some. young) (record { runs = h.runs; heads = h.heads; announced = h.announced }));
    }

-- a search that chooses goes on as the schedule says
pub search_chooses : (sizes : Sizes) (i : ℕ) (v : ProcessView) (g : Ledger) → 0 < sizes.quantum → v.calls.stage ≡ Choosing
    → InCalls sizes i v g
    → CarriesOn sizes i (search_chosen v) g (ledger_chosen g)
search_chooses sizes i v g some stage h =
    let choice : may_choose_at v.calls v.calls.stage ≡ true = rw stage refl in
    let rest = h.stage.rests stage in
    search_goes_on sizes i v g some (rw (h.phase ∙ ap (call_phase_at v.calls) stage) refl)
    (ap is_idle (h.runs.kept.idle (rw rest refl))) (h.choice choice).young h

-- a search begins
not_announcing : (sizes : Sizes) (v : ProcessView) → PoolRuns sizes v → 1 ≤ v.pool.plan.done → v.transfer.next ≢ Announce
not_announcing sizes v runs sent = λ e. (let few : v.pool.plan.done ≤ 0 = rw e at runs.counted refl in absurd (omega (arith, sent, few)))

search_begins_by : (sizes : Sizes) (i : ℕ) (v : ProcessView) (g : Ledger) (t : Bool) → is_idle v.pool.plan.pending ≡ t
    → Scheduled sizes g.account
    → v.calls.stage ≡ Between → v.transfer.age < most_age sizes → InCalls sizes i v g
    → CarriesOn sizes i (search_begun_by t v) g (record g { account = account_searching t g.account })
search_begins_by sizes i v g true idle s between young h =
    search_goes_on sizes i v g (some_quantum sizes s.fit) (rw (between_phase sizes i v g h between) refl) idle young h
search_begins_by sizes i v g false busy s between young h =
    let phase = between_phase sizes i v g h between in
    let pends : is_idle g.account.plan.pending ≡ false = ap (λ plan. is_idle plan.pending) h.plan ∙ busy in
    let waits =
    stands_waits g.account (reached_stands _ _ _ g.account s.fit s.reached) phase (busy_not_idle g.account.plan.pending pends) in
    let sent : 1 ≤ v.pool.plan.done = rw h.plan at waits in
    record {
      goes = steps.begins _ (still_between g phase) refl (schedule.meets phase pends);
      calls = record {
        way = λ e. cc;
        plan = h.plan;
        phase = refl;
        runs = runs_with_calls sizes v _ h.runs;
        heads = h.heads;
        announced = h.announced;
        stage = record {
          none = λ e. cc;
          changes = λ e. refl;
          pending = λ e. λ rest. absurd (busy_not_idle v.pool.plan.pending busy (h.runs.kept.idle (rw rest refl)));
          few = λ e paced. cc;
          some = λ e. cc;
          searches = λ e. cc;
          rests = λ e. cc;
        };
        choice = λ e. record { young = young; announced = not_announcing sizes v h.runs sent };
        fresh = λ e. cc;
      };
    }

-- a read or a write begins
keeping_begun : (sizes : Sizes) (i : ℕ) (v : ProcessView) (g : Ledger) (call : Call) → changes_pool (Some call) ≡ false
    → v.calls.stage ≡ Between → InCalls sizes i v g
    → InCalls sizes i (entered call Own v) g
keeping_begun sizes i v g call keeps between h = record {
  way = λ e. cc;
  plan = h.plan;
  phase = between_phase sizes i v g h between ∙ kept_phase call keeps;
  runs = runs_with_calls sizes v _ h.runs;
  heads = h.heads;
  announced = h.announced;
  stage = record {
    none = λ e. cc;
    changes = λ e. cc;
    pending = λ e. cc;
    few = λ e. cc;
    some = λ e. λ none. cc;
    searches = λ e. cc;
    rests = λ e. cc;
  };
  choice = λ e. cc;
  fresh = λ e. cc;
}
  where
    kept_phase : (call : Call) → changes_pool (Some call) ≡ false
        → schedule.Between ≡ call_phase_at (record { stage = Own; call = Some call; steps = 0; chosen = true; way = Calls }) Own
    kept_phase Allocate e = grind arith
    kept_phase (Free block) e = grind arith
    kept_phase (Read block index) e = refl
    kept_phase (Write block index value) e = refl
    kept_phase Search e = grind arith

-- each call begins
pub changing_call_begins : (sizes : Sizes) (i : ℕ) (v : ProcessView) (g : Ledger) (call : Call) → changes_pool (Some call) ≡ true
    → Scheduled sizes g.account
    → v.calls.stage ≡ Between → IsYoungFor sizes call v
    → InCalls sizes i v g → CarriesOn sizes i (call_begun call v) g (ledger_begun call g)
changing_call_begins sizes i v g Allocate changes s between young h =
    changing_begun sizes i v g Allocate changes refl refl (some_quantum sizes s.fit) between young h
changing_call_begins sizes i v g (Free block) changes s between young h =
    changing_begun sizes i v g (Free block) changes refl refl (some_quantum sizes s.fit) between young h
changing_call_begins sizes i v g (Read block index) changes s between young h = grind arith
changing_call_begins sizes i v g (Write block index value) changes s between young h = grind arith
changing_call_begins sizes i v g Search changes s between young h =
    rw (ap (λ (plan : Numbers). is_idle plan.pending) h.plan)
    (search_begins_by sizes i v g (is_idle v.pool.plan.pending) refl s between young h)

-- a read or a write that begins leaves the account
pub keeping_call_begins : (sizes : Sizes) (i : ℕ) (v : ProcessView) (g : Ledger) (call : Call) → changes_pool (Some call) ≡ false
    → v.calls.stage ≡ Between → InCalls sizes i v g
    → InCalls sizes i (call_begun call v) g
keeping_call_begins sizes i v g Allocate keeps between h = grind arith
keeping_call_begins sizes i v g (Free block) keeps between h = grind arith
keeping_call_begins sizes i v g (Read block index) keeps between h = keeping_begun sizes i v g (Read block index) keeps between h
keeping_call_begins sizes i v g (Write block index value) keeps between h =
    keeping_begun sizes i v g (Write block index value) keeps between h
keeping_call_begins sizes i v g Search keeps between h = grind arith
