-- what holds of every pass between two calls
use Rattle.std.proofs.Common.{◌≡◌, ◌≢◌, ℕ, ◌*◌, ◌≤◌, true, length, refl, sym, ap, ◌∙◌, subst, arith}
use Rattle.std.specs.Prelude.{Contains, if◌then◌else◌, nat_eq}
use Rattle.std.proofs.lemmas.Bool.{false≢true}
use Rattle.std.proofs.lemmas.Bool.Decides.{nat_tests}
use Rattle.word_layout.specs.Sizes.{Sizes, limits_of, transfer_bound}
use Rattle.word_layout.specs.Names.{word_at}
use Rattle.pool_model.specs.History.{own, grip}
use Rattle.pool_model.specs.Legal.{IsLegal}
use Rattle.pool_model.proofs.Histories.{legal_take}
use Rattle.transfer_schedule.specs.Numbers.{Numbers, is_idle, after_begin, after_choice, kept, withheld}
use Rattle.transfer_schedule.specs.Beginning.{due_with}
use Rattle.transfer_schedule.specs.Table.{InTable}
use Rattle.transfer_schedule.specs.Account as schedule
use Rattle.transfer_schedule.specs.declared.pending.Pending.{Pending}
use Rattle.transfer_schedule.specs.declared.pending.Pending.TheVariants.{Idle, Taking, Giving}
use Rattle.transfer_schedule.proofs.AtPhase.{stands_sound, stands_table}
use Rattle.transfer_schedule.proofs.Reaching.{reached_sizes, reached_stands}
use Rattle.pool_machine.specs.declared.call.CallStage.TheVariants.{Between}
use Rattle.pool_machine.specs.Conditions.{may_use_calls}
use Rattle.pool_machine.specs.declared.call.Way.TheVariants.{Alone}
use Rattle.pool_machine.specs.declared.view.PoolView.{PoolView}
use Rattle.pool_machine.specs.declared.view.ProcessView.{ProcessView}
use Rattle.history_invariant.specs.Fits.{CountsEntries}
use Rattle.call_invariant.specs.InCalls.{InCalls, Scheduled}
use Rattle.call_invariant.specs.Phases.{call_phase}
use Rattle.call_invariant.proofs.Standing.{shape_fits, withholds_five}
use Rattle.call_invariant.proofs.Uses.{calls_used}
use Rattle.interleaving_core.specs.Invariant.{DataHolds}
use Rattle.interleaving_core.proofs.Joins.{scheduled}
use Rattle.interleaving_core.proofs.Standing.{uses_no_transfers}
use Rattle.pool_table.specs.Minds.{Mind, number_of, entries_in, known_in, SeesOwn}
use Rattle.pool_table.specs.Rule.{views_of}
use Rattle.pool_table.proofs.Turns.{IsSeat, seat_of}
use Rattle.block_pool.specs.declared.process.Process.{Process}
use Rattle.block_pool.specs.Passing.{BetweenCalls, pass_of}
use Rattle.block_pool.specs.Standing.{StandsWell}

kept_less : (plan : Numbers) (p : Pending) → plan.pending ≡ p → kept plan ≤ withheld plan
kept_less plan Idle e = rw e (omega arith)
kept_less plan Taking e = rw e (omega arith)
kept_less plan Giving e = rw e (omega arith)

between_phase : (v : ProcessView) → v.calls.stage ≡ Between → call_phase v ≡ schedule.Between
between_phase v e = rw e refl

-- what the rule says of its seat
pub seat_at : (sizes : Sizes) (x : Process) (f : BetweenCalls sizes x)
    → IsSeat x.seat.view.sizes f.among.words f.among.held.minds f.among.held.history f.among.views x.seat.view
seat_at sizes x f = seat_of f.among.words f.among.views f.among.number x.seat.view f.among.held f.among.seated f.of_process

-- a pass between two calls stands well
pub stands : (sizes : Sizes) (x : Process) → BetweenCalls sizes x → StandsWell (pass_of x.seat)
stands sizes x f =
    let v = x.seat.view in
    let at = seat_at sizes x f in
    let i = number_of v.mind in
    let minds = f.among.held.minds in
    let words = f.among.words in
    let history = f.among.held.history in
    let (ghosts, holds) = at.holds.meets in
    let ledger = ghosts.ledgers i in
    let view_is : (minds i).view ≡ v.mind.view = ap (λ (z : Mind). z.view) at.here in
    let calls : (minds i).view.calls.way ≢ Alone =
    uses_no_transfers (minds i).view.calls.way (ap (λ (z : ProcessView). may_use_calls z.calls.way) view_is ∙ f.way) in
    let in_calls : InCalls v.sizes i (minds i).view ledger =
    calls_used v.sizes i (minds i).view ledger (minds i).view.calls.way calls (holds.pools i at.low) in
    let goes : Scheduled v.sizes ledger.account =
    scheduled v.sizes (word_at v.sizes words) (views_of minds) history ghosts i at.holds.shape at.low holds in
    let fits = holds.entries.each i at.low in
    let sees : SeesOwn history i v.mind.seen = subst (λ (z : Mind). SeesOwn history i z.seen) at.here (at.holds.sees i at.low) in
    let mine : entries_in v.mind ≡ ledger.entries = sees.own_seen ∙ fits.sees.own_entries in
    let data_words : DataHolds v.sizes (word_at v.sizes words) (grip (own history i)) (known_in v.mind.known) =
    subst (λ (z : Mind). DataHolds v.sizes (word_at v.sizes words) (grip (own history i)) (known_in z.known)) at.here
    (at.holds.data_words i at.low) in
    let five : withheld v.mind.view.pool.plan ≤ 5 * v.sizes.length =
    subst (λ (z : ProcessView). withheld z.pool.plan ≤ 5 * v.sizes.length) view_is
    (withholds_five v.sizes i (minds i).view ledger goes in_calls) in
    let less = kept_less v.mind.view.pool.plan v.mind.view.pool.plan.pending refl in
    let phase = in_calls.phase ∙ (ap call_phase view_is ∙ between_phase v.mind.view f.between) in
    record {
      legal = subst (IsLegal (limits_of v.sizes)) sees.beginning
          (legal_take (limits_of v.sizes) history (length v.mind.seen) holds.entries.legal);
      own = refl;
      held = refl;
      known_held = λ b k value e. subst (λ l. Contains (grip l) b) (sym sees.own_seen) (data_words.holds b k value e);
      known_within = data_words.within;
      five = omega (arith, five, less);
      withholds = five;
      account = ledger.account;
      accounted = record {
        reached = goes.reached;
        between = phase;
        counts = subst (CountsEntries ledger.account) (sym mine) fits.counts;
        plan = in_calls.plan ∙ ap (λ (z : ProcessView). z.pool.plan) view_is;
      };
      sound = stands_sound ledger.account
          (reached_stands v.sizes.length (transfer_bound v.sizes) v.sizes.quantum ledger.account goes.fit goes.reached) (rw phase refl);
    }

-- its plan has the shape's quantum
pub plan_quantum : (sizes : Sizes) (x : Process) → BetweenCalls sizes x → x.pool.plan.quantum ≡ sizes.quantum
plan_quantum sizes x f =
    let s = stands sizes x f in
    let v = x.seat.view in
    let (l, b, q) = reached_sizes v.sizes.length (transfer_bound v.sizes) v.sizes.quantum s.account s.accounted.reached in
    sym (ap (λ z. z.plan.quantum) f.pool)
    ∙ (sym (ap (λ (z : Numbers). z.quantum) s.accounted.plan) ∙ (q ∙ ap (λ (z : Sizes). z.quantum) f.shape))

-- its plan is in the table of spares
plan_in_table : (sizes : Sizes) (x : Process) → BetweenCalls sizes x → InTable x.pool.plan
plan_in_table sizes x f =
    let s = stands sizes x f in
    let v = x.seat.view in
    let fit = shape_fits v.sizes (seat_at sizes x f).holds.shape in
    let table = stands_table s.account
    (reached_stands v.sizes.length (transfer_bound v.sizes) v.sizes.quantum s.account fit s.accounted.reached) in
    subst InTable (s.accounted.plan ∙ ap (λ (z : PoolView). z.plan) f.pool) table

-- of at most three spares just two leave no transfer due
due_but_with_two : (spares : ℕ) → spares ≤ 3 → nat_eq spares 2 ≡ is_idle (due_with spares)
due_but_with_two spares low = grind (arith, nat_tests)

begun_pending : (p : Pending) (plan : Numbers) → is_idle plan.pending ≡ true → is_idle (after_begin p plan).pending ≡ is_idle p
begun_pending Idle plan idle = idle
begun_pending Taking plan idle = refl
begun_pending Giving plan idle = refl

is_rest : (p : Pending) → is_idle p ≡ true → p ≡ Idle
is_rest Idle e = refl
is_rest Taking e = absurd (false≢true e)
is_rest Giving e = absurd (false≢true e)

quiet_with_two : (plan : Numbers) → InTable plan → is_idle plan.pending ≡ true
    → nat_eq plan.spares 2 ≡ is_idle (after_choice plan).pending
quiet_with_two plan table idle =
    due_but_with_two plan.spares (table.idle (is_rest plan.pending idle))
    ∙ (sym (begun_pending (due_with plan.spares) plan idle)
    ∙ ap (λ b. is_idle (after_begin (if b then due_with plan.spares else Idle) plan).pending) (sym idle))

-- a pass with nothing pending begins a call with no transfer exactly where it has two spares
pub quiet_so : (sizes : Sizes) (x : Process) (spares : ℕ) → BetweenCalls sizes x → is_idle x.pool.plan.pending ≡ true
    → spares ≡ x.pool.plan.spares → nat_eq spares 2 ≡ is_idle (after_choice (pass_of x.seat).plan).pending
quiet_so sizes x spares f idle is =
    ap (λ n. nat_eq n 2) is
    ∙ (quiet_with_two x.pool.plan (plan_in_table sizes x f) idle
    ∙ ap (λ (z : PoolView). is_idle (after_choice z.plan).pending) (sym f.pool))
