-- a process makes the own step of its call
use Rattle.std.proofs.Common.{◌≢◌, ◌≡◌, ℕ, ◌+◌, ◌-◌, ◌<◌, ◌≤◌, true, false, List, length, refl, sym, ◌∙◌, ap, [], ◌∷◌, length-append, arith}
use Rattle.std.specs.Prelude.{Option, None, Some, take, Contains}
use Rattle.std.proofs.lemmas.Bool.Decides.{nat_tests}
use Rattle.std.proofs.lemmas.List.{length-take-le}
use Rattle.std.proofs.lemmas.List.Elements.{at_from_Contains}
use Rattle.word_layout.specs.Sizes.{Sizes, transfer_bound}
use Rattle.pool_model.specs.declared.entry.Entry.{Entry}
use Rattle.pool_model.specs.History.{grip}
use Rattle.transfer_schedule.specs.Numbers.{Numbers, source_of, target_of, after_took_one, after_gave_one}
use Rattle.transfer_schedule.specs.Account.{Account, follows, frees}
use Rattle.transfer_schedule.specs.Account as schedule
use Rattle.transfer_schedule.specs.Laws.{HasSizes}
use Rattle.transfer_schedule.specs.Table.{InTable}
use Rattle.transfer_schedule.specs.declared.pending.Pending.{Pending}
use Rattle.transfer_schedule.specs.declared.pending.Pending.TheVariants.{Idle, Taking, Giving}
use Rattle.transfer_schedule.specs.declared.own_step.Source.{Source}
use Rattle.transfer_schedule.specs.declared.own_step.Target.{Target}
use Rattle.transfer_schedule.specs.declared.own_step.Source.TheVariants as source
use Rattle.transfer_schedule.specs.declared.own_step.Target.TheVariants as target
use Rattle.transfer_schedule.proofs.Operations.{SameTransfer, same_transfer, one_more_few, took_same, gave_same, took_sizes, gave_sizes}
use Rattle.transfer_schedule.proofs.AtPhase.{stands_table}
use Rattle.transfer_schedule.proofs.Reaching.{reached_stands}
use Rattle.pool_machine.specs.declared.call.Call.{Call}
use Rattle.pool_machine.specs.declared.call.Call.TheVariants.{Allocate, Free, Read, Write, Search}
use Rattle.pool_machine.specs.declared.call.CallStage.TheVariants.{Between, Own}
use Rattle.pool_machine.specs.declared.call.CallView.{CallView}
use Rattle.pool_machine.specs.declared.view.PoolView.{PoolView}
use Rattle.pool_machine.specs.declared.view.ProcessView.{ProcessView}
use Rattle.pool_machine.proofs.Plans.{allocated_plan, freed_plan}
use Rattle.pool_machine.specs.OwnSteps.{block_from, next_block, allocated, freed, pool_own_met, call_left, own_met}
use Rattle.pool_invariant.specs.Holds.{PoolRuns}
use Rattle.history_invariant.specs.Fits.{CountsEntries}
use Rattle.history_invariant.specs.Grips.{Balances}
use Rattle.history_invariant.specs.Ledger.{Ledger}
use Rattle.history_invariant.specs.Steps.{entered, got_one, got_none, gave_back}
use Rattle.call_invariant.specs.Phases.{changes_pool, is_getting, own_phase, call_phase_at}
use Rattle.call_invariant.specs.InCalls.{Scheduled, InCalls}
use Rattle.call_invariant.proofs.Standing.{in_table}
use Rattle.call_invariant.proofs.Moved.{not_fresh}

-- an own step leaves the pending transfer of the plan, and its sizes
record PendsAs (old new : Numbers) : Type 0 where
  sizes : HasSizes old.length old.bound old.quantum new
  transfer : SameTransfer old new

took_pends : (x : Numbers) → PendsAs x (after_took_one x)
took_pends x = record { sizes = took_sizes x; transfer = took_same x }

gave_pends : (x : Numbers) → PendsAs x (after_gave_one x)
gave_pends x = record { sizes = gave_sizes x; transfer = gave_same x }

took_room : (x : Numbers) (l : ℕ) → x.length ≡ l → x.current ≤ l → (after_took_one x).current ≤ l
took_room x l e h = grind (arith, nat_tests)

gave_room : (x : Numbers) (l : ℕ) → x.length ≡ l → 2 ≤ l → x.current ≤ l → (after_gave_one x).current ≤ l
gave_room x l e long h = grind (arith, nat_tests)

runs_with_pool : (sizes : Sizes) (v : ProcessView) (pool : PoolView) (calls : CallView) → PendsAs v.pool.plan pool.plan
    → pool.giving ≡ v.pool.giving → pool.plan.current ≤ sizes.length
    → PoolRuns sizes v
    → PoolRuns sizes (record v { pool = pool; calls = calls })
runs_with_pool sizes v pool calls pends giving room h = record {
  kept = record {
    batch = pends.sizes.0 ∙ h.kept.batch;
    bound = pends.sizes.1 ∙ h.kept.bound;
    quantum = pends.sizes.2 ∙ h.kept.quantum;
    room = room;
    idle = λ e. pends.transfer.pending ∙ h.kept.idle e;
    none = λ e. pends.transfer.done ∙ h.kept.none e;
    pending = λ e. pends.transfer.pending ∙ h.kept.pending e;
    given = λ e. giving ∙ h.kept.given e;
    settled = λ e. giving ∙ h.kept.settled e;
  };
  counted = λ e. rw pends.transfer.done (h.counted e);
  index = h.index;
  age = h.age;
}

-- each spare keeps its head
took_heads : (word : ℕ) (pool : PoolView) (s : Source) → source_of pool.plan ≡ s → length pool.heads ≡ pool.plan.spares
    → length (allocated word pool s).heads ≡ (allocated word pool s).plan.spares
took_heads word pool source.Current e h = grind (arith, nat_tests)
took_heads word pool source.Spare e h = popped pool.heads pool.plan.spares h ∙ sym (left pool.plan e)
  where
    popped : (heads : List ℕ) (spares : ℕ) → length heads ≡ spares → length (take (length heads - 1) heads) ≡ spares - 1
    popped heads spares e = length-take-le {A = ℕ} (length heads - 1) heads (omega arith) ∙ ap (λ n. n - 1) e

    left : (x : Numbers) → source_of x ≡ source.Spare → (after_took_one x).spares ≡ x.spares - 1
    left x e = grind (arith, nat_tests)
took_heads word pool source.Nothing e h = grind (arith, nat_tests)

gave_heads : (block : ℕ) (pool : PoolView) (t : Target) → target_of pool.plan ≡ t → pool.plan.spares ≤ 3
    → length pool.heads ≡ pool.plan.spares
    → length (freed block pool t).heads ≡ (freed block pool t).plan.spares
gave_heads block pool target.Current e few h = grind (arith, nat_tests)
gave_heads block pool target.Fresh e few h = length-append pool.heads ((pool.head - 1) ∷ []) ∙ more pool.plan (length pool.heads) h e few
  where
    more : (x : Numbers) (n : ℕ) → n ≡ x.spares → target_of x ≡ target.Fresh → x.spares ≤ 3
        → n + length ((pool.head - 1) ∷ []) ≡ (after_gave_one x).spares
    more x n h e few = grind (arith, nat_tests, one_more_few x.spares)

-- a process that has left its call
left_calls : (sizes : Sizes) (i : ℕ) (v : ProcessView) (g new : Ledger) (pool : PoolView) → InCalls sizes i v g → v.calls.stage ≡ Own
    → PendsAs v.pool.plan pool.plan → pool.giving ≡ v.pool.giving → pool.plan.current ≤ sizes.length → length pool.heads ≡ pool.plan.spares
    → new.account.plan ≡ pool.plan → new.account.phase ≡ schedule.Between
    → InCalls sizes i (record v { pool = pool; calls = call_left v.calls }) new
left_calls sizes i v g new pool h own pends giving room heads plan phase = record {
  way = h.way;
  plan = plan;
  phase = phase;
  runs = runs_with_pool sizes v pool _ pends giving room h.runs;
  heads = heads;
  announced = λ e. rw pends.transfer.done (h.announced e);
  stage = record {
    none = λ e. refl;
    changes = λ e. cc;
    pending = λ e. cc;
    few = λ e. cc;
    some = λ e. cc;
    searches = λ e. cc;
    rests = λ e. cc;
  };
  choice = λ e. cc;
  fresh = λ e. absurd (not_fresh sizes i v g h (λ between. apart (sym own ∙ between)) e);
}
  where
    apart : Own ≡ Between → ⊥
    apart e = cc

-- an allocate, whether it is given a block or refused
allocated_giving : (word : ℕ) (pool : PoolView) (s : Source) → (allocated word pool s).giving ≡ pool.giving
allocated_giving word pool s = grind arith

getting_met : (word : ℕ) (pool : PoolView) (call : Option Call) → is_getting call ≡ true
    → pool_own_met word pool call ≡ allocated word pool (source_of pool.plan)
getting_met word pool None e = cc
getting_met word pool (Some Allocate) e = refl
getting_met word pool (Some (Free block)) e = cc
getting_met word pool (Some (Read block index)) e = cc
getting_met word pool (Some (Write block index value)) e = cc
getting_met word pool (Some Search) e = refl

allocate_leaves : (sizes : Sizes) (i : ℕ) (v : ProcessView) (word : ℕ) (g new : Ledger) → InCalls sizes i v g → v.calls.stage ≡ Own
    → is_getting v.calls.call ≡ true
    → new.account.plan ≡ after_took_one g.account.plan → new.account.phase ≡ schedule.Between
    → InCalls sizes i (own_met v word) new
allocate_leaves sizes i v word g new h own call plan phase =
    let s = source_of v.pool.plan in
    let same = allocated_plan word v.pool s in
    rw (getting_met word v.pool v.calls.call call) (left_calls sizes i v g new (allocated word v.pool s) h own
    (rw same (took_pends v.pool.plan)) (allocated_giving word v.pool s)
    (rw same (took_room v.pool.plan sizes.length h.runs.kept.batch h.runs.kept.room)) (took_heads word v.pool s refl h.heads)
    (plan ∙ ap after_took_one h.plan ∙ sym same) phase)

-- an allocate or a search that got a block leaves its process between two calls
pub gets_leave : (sizes : Sizes) (i : ℕ) (v : ProcessView) (word : ℕ) (g : Ledger) (history : List Entry) (entry : Entry)
    → InCalls sizes i v g → v.calls.stage ≡ Own → is_getting v.calls.call ≡ true
    → InCalls sizes i (own_met v word) (entered history entry (got_one g.account) g)
gets_leave sizes i v word g history entry h own call =
    allocate_leaves sizes i v word g (entered history entry (got_one g.account) g) h own call refl refl

-- so does one that is refused
pub refusals_leave : (sizes : Sizes) (i : ℕ) (v : ProcessView) (word : ℕ) (g : Ledger) (history : List Entry) (entry : Entry)
    → InCalls sizes i v g → v.calls.stage ≡ Own → is_getting v.calls.call ≡ true
    → InCalls sizes i (own_met v word) (entered history entry (got_none g.account) g)
refusals_leave sizes i v word g history entry h own call =
    allocate_leaves sizes i v word g (entered history entry (got_none g.account) g) h own call refl refl

-- a free
freed_giving : (block : ℕ) (pool : PoolView) (t : Target) → (freed block pool t).giving ≡ pool.giving
freed_giving block pool t = grind arith

own_phase_at : (calls : CallView) → calls.stage ≡ Own → call_phase_at calls calls.stage ≡ own_phase calls.call
own_phase_at calls own = rw own refl

-- at its own step an allocate, a free or a search is so in the schedule
pub phase_own : (sizes : Sizes) (i : ℕ) (v : ProcessView) (g : Ledger) → InCalls sizes i v g → v.calls.stage ≡ Own
    → g.account.phase ≡ own_phase v.calls.call
phase_own sizes i v g h own = h.phase ∙ own_phase_at v.calls own

-- an allocate and a search ask for a block in their own step
pub getting_asks : (call : Option Call) → is_getting call ≡ true → schedule.asks_in (own_phase call) ≡ true
getting_asks None e = cc
getting_asks (Some Allocate) e = refl
getting_asks (Some (Free block)) e = cc
getting_asks (Some (Read block index)) e = cc
getting_asks (Some (Write block index value)) e = cc
getting_asks (Some Search) e = refl

-- there are at most three spares, also after a free: with three the current list has room for its block
few_in_table : (x : Numbers) → InTable x → x.spares ≤ 3
few_in_table x h = by_pending x.pending refl
  where
    by_pending : (p : Pending) → x.pending ≡ p → x.spares ≤ 3
    by_pending Idle e = h.idle e
    by_pending Taking e = let few = h.take e in omega arith
    by_pending Giving e = h.give e

-- a process in calls has at most three spares
pub spares_few : (sizes : Sizes) (i : ℕ) (v : ProcessView) (g : Ledger) → Scheduled sizes g.account → InCalls sizes i v g
    → v.pool.plan.spares ≤ 3
spares_few sizes i v g s h = few_in_table v.pool.plan (in_table sizes i v g s h)

few_when_full : (x : Numbers) → target_of x ≡ target.Fresh → x.spares ≤ 3 → (after_gave_one x).spares ≤ 3 → x.spares < 3
few_when_full x fresh few after = grind (arith, nat_tests, one_more_few x.spares)

reached_few : (sizes : Sizes) (a : Account) → Scheduled sizes a → a.plan.spares ≤ 3
reached_few sizes a s =
    few_in_table a.plan (stands_table a (reached_stands sizes.length (transfer_bound sizes) sizes.quantum a s.fit s.reached))

-- a free that begins a fresh list has room for one more spare
pub frees_have_room : (sizes : Sizes) (i : ℕ) (v : ProcessView) (g : Ledger) → InCalls sizes i v g → Scheduled sizes g.account
    → v.calls.stage ≡ Own → own_phase v.calls.call ≡ schedule.Own
    → g.account.backs < g.account.gots → target_of v.pool.plan ≡ target.Fresh → length v.pool.heads < 3
frees_have_room sizes i v g h s own frees_now held fresh =
    let after =
    reached_few sizes (gave_back g.account)
    (record { fit = s.fit; reached = follows s.reached (frees (phase_own sizes i v g h own ∙ frees_now) (λ unbroken. held)) }) in
    rw h.heads (few_when_full v.pool.plan fresh (spares_few sizes i v g s h) (rw (sym h.plan) after))

-- a process that holds a block has been given more than it gave back
pub holders_may_free : (account : Account) (entries : List Entry) (block : ℕ) → CountsEntries account entries → Balances entries
    → Contains (grip entries) block → account.backs < account.gots
holders_may_free account entries block counts balance held =
    let (k, lt, at) = at_from_Contains (grip entries) block held in
    omega (arith, counts.gots, counts.backs, balance)

-- an allocate is given a block exactly where the plan has one
pub block_has_source : (pool : PoolView) (block : ℕ) → next_block pool ≡ Some block → source_of pool.plan ≢ source.Nothing
block_has_source pool block e = λ none. grind arith

-- where no block is next, the plan has none
pub no_block_has_none : (pool : PoolView) → next_block pool ≡ None → source_of pool.plan ≡ source.Nothing
no_block_has_none pool e = by_source (source_of pool.plan) e
  where
    by_source : (s : Source) → block_from pool s ≡ None → s ≡ source.Nothing
    by_source s e = grind arith

-- what an own step finds of spares
spare_has_head : (x : Numbers) → source_of x ≡ source.Spare → 1 ≤ x.spares
spare_has_head x e = grind (arith, nat_tests)

-- where the plan takes its block from a spare, there is one
pub allocates_have_spare : (sizes : Sizes) (i : ℕ) (v : ProcessView) (g : Ledger) → InCalls sizes i v g
    → source_of v.pool.plan ≡ source.Spare → 1 ≤ length v.pool.heads
allocates_have_spare sizes i v g h e = rw h.heads (spare_has_head v.pool.plan e)

-- a free leaves its process between two calls
pub frees_leave : (sizes : Sizes) (i : ℕ) (v : ProcessView) (word block : ℕ) (g : Ledger) (history : List Entry) (entry : Entry)
    → InCalls sizes i v g → Scheduled sizes g.account
    → v.calls.stage ≡ Own → v.calls.call ≡ Some (Free block)
    → InCalls sizes i (own_met v word) (entered history entry (gave_back g.account) g)
frees_leave sizes i v word block g history entry h s own call =
    let t = target_of v.pool.plan in
    let same = freed_plan block v.pool t in
    let few = spares_few sizes i v g s h in
    rw call (left_calls sizes i v g (entered history entry (gave_back g.account) g) (freed block v.pool t) h own
    (rw same (gave_pends v.pool.plan)) (freed_giving block v.pool t)
    (rw same (gave_room v.pool.plan sizes.length h.runs.kept.batch s.fit.long h.runs.kept.room))
    (gave_heads block v.pool t refl few h.heads)
    (ap after_gave_one h.plan ∙ sym same) refl)

-- a read or a write leaves the pool and the ledger as they are
same_pool : (word : ℕ) (pool : PoolView) (call : Option Call) → changes_pool call ≡ false → pool_own_met word pool call ≡ pool
same_pool word pool None e = refl
same_pool word pool (Some Allocate) e = grind arith
same_pool word pool (Some (Free block)) e = grind arith
same_pool word pool (Some (Read block index)) e = refl
same_pool word pool (Some (Write block index value)) e = refl
same_pool word pool (Some Search) e = cc

kept_phase : (calls : CallView) → calls.stage ≡ Own → changes_pool calls.call ≡ false → call_phase_at calls calls.stage ≡ schedule.Between
kept_phase calls own keeps = rw own (at_own calls.call keeps)
  where
    at_own : (call : Option Call) → changes_pool call ≡ false → own_phase call ≡ schedule.Between
    at_own call e = grind arith

-- so does a read or a write, with the ledger as it was
pub keeping_steps_leave : (sizes : Sizes) (i : ℕ) (v : ProcessView) (word : ℕ) (g : Ledger) → InCalls sizes i v g → v.calls.stage ≡ Own
    → changes_pool v.calls.call ≡ false
    → InCalls sizes i (own_met v word) g
keeping_steps_leave sizes i v word g h own keeps =
    rw (same_pool word v.pool v.calls.call keeps) (left_calls sizes i v g g v.pool h own
    (record { sizes = (refl, refl, refl); transfer = same_transfer v.pool.plan }) refl h.runs.kept.room h.heads h.plan
    (h.phase ∙ kept_phase v.calls own keeps))
