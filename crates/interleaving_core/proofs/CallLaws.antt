-- the laws of calls, of the state at the end of every run
use Rattle.std.proofs.Common.{◌≡◌, ◌≢◌, ℕ, ◌+◌, ◌-◌, ◌*◌, ◌<◌, ◌≤◌, ◌^◌, Bool, true, false, Option, Some, List, length, refl, sym, ap, ◌∙◌}
use Rattle.std.proofs.Common.{subst, arith}
use Rattle.std.specs.Prelude.{◌↔◌, Contains, IfSome, slice_get, take, if◌then◌else◌}
use Rattle.word_layout.specs.Sizes.{Sizes, blocks, transfer_bound, limits_of, most_blocks}
use Rattle.word_layout.specs.Names.{word_at}
use Rattle.word_layout.proofs.Limits.{length_le_blocks}
use Rattle.process_sums.specs.Sums.{total}
use Rattle.pool_model.specs.declared.entry.Entry.{Entry}
use Rattle.pool_model.specs.declared.entry.Entry.TheVariants.{Dry}
use Rattle.pool_model.specs.Limits.{Limits}
use Rattle.pool_model.specs.Legal.{IsLegal, HadFew, MayFollow}
use Rattle.pool_model.specs.History.{own, held, slack, grip}
use Rattle.transfer_schedule.specs.Table.{InTable}
use Rattle.transfer_schedule.specs.Account.{Account}
use Rattle.transfer_schedule.specs.Account as schedule
use Rattle.transfer_schedule.specs.Laws.{CountsSteps}
use Rattle.transfer_schedule.proofs.AtPhase.{stands_in_time, stands_counts}
use Rattle.transfer_schedule.proofs.Reaching.{reached_stands, reached_sizes}
use Rattle.transfer_machine.specs.Words.{stack}
use Rattle.pool_machine.specs.declared.call.CallStage.{CallStage}
use Rattle.pool_machine.specs.declared.call.CallView.{CallView}
use Rattle.pool_machine.specs.declared.call.CallStage.TheVariants.{Moving}
use Rattle.pool_machine.specs.declared.call.Way.TheVariants.{Alone}
use Rattle.pool_machine.specs.declared.view.ProcessView.{ProcessView}
use Rattle.pool_machine.specs.Steps.{is_paced}
use Rattle.history_invariant.specs.Grips.{times}
use Rattle.history_invariant.proofs.Holding.{held_shared}
use Rattle.call_invariant.specs.Phases.{call_phase_at}
use Rattle.call_invariant.proofs.Uses.{calls_used}
use Rattle.interleaving_core.specs.Kept.{kept_by, kept}
use Rattle.interleaving_core.specs.Moves.{CoreState, view_at, holder_of, is_holder}
use Rattle.interleaving_core.specs.Runs.{opens, turns, is_made}
use Rattle.interleaving_core.specs.Steps.{is_at_step}
use Rattle.interleaving_core.specs.CallLaws as laws
use Rattle.interleaving_core.proofs.Standing.{alone_between}
use Rattle.interleaving_core.proofs.Joins.{scheduled, keeps}
use Rattle.interleaving_core.proofs.Runs.{RunFits, run_fits}
use Rattle.interleaving_core.proofs.CallLawsKept.{few_withheld, keeps_five, all_counted}

-- the shape stays
turn_stays : (t : Bool) (s u : CoreState) → u.sizes ≡ s.sizes → (if t then u else s).sizes ≡ s.sizes
turn_stays true s u e = e
turn_stays false s u e = refl

-- the numbers of a run's pool stay
pub shapes_stay : laws.ShapesStay
shapes_stay sizes past history s (opens words shape opening) = refl
shapes_stay sizes past history s (turns before made old turn run) =
    turn_stays (is_made turn old) old _ refl ∙ shapes_stay sizes before made old run

-- what holds at the end of every run is a law of it
pub every_run : (Fact : Sizes → List Entry → CoreState → Type 0)
    → ((history : List Entry) (s : CoreState) → RunFits s history → Fact s.sizes history s) → laws.EveryRun Fact
every_run Fact holds sizes past history s run =
    subst (λ (shape : Sizes). Fact shape history s) (shapes_stay sizes past history s run)
    (holds history s (run_fits sizes past history s run))

-- the history
legal_here : (history : List Entry) (s : CoreState) → RunFits s history → IsLegal (limits_of s.sizes) history
legal_here history s fits = let (ghosts, h) = fits.meets in h.entries.legal

-- the history of a run is legal
pub histories_are_legal : laws.HistoriesAreLegal
histories_are_legal = every_run (λ sizes history s. IsLegal (limits_of sizes) history) legal_here

refusal_follows : (limits : Limits) (past : List Entry) (entry : Option Entry) (by : ℕ) → IfSome entry (MayFollow limits past)
    → entry ≡ Some (Dry by) → HadFew limits past by
refusal_follows limits past entry by may e = (rw e at may).1

-- a refusal had a moment with few unheld blocks in its window
pub refusals_had_few : laws.RefusalsHadFew
refusals_had_few sizes past history s run x by e =
    refusal_follows (limits_of sizes) (take x history) (slice_get history x) by ((histories_are_legal sizes past history s run).follows x) e

once_here : (history : List Entry) (s : CoreState) → RunFits s history → (block : ℕ) → times block (held history) ≤ 1
once_here history s fits block =
    let (ghosts, h) = fits.meets in
    (held_shared (limits_of s.sizes) (transfer_bound s.sizes) s.sizes.quantum history ghosts.ledgers h.entries).grips.once block

-- no block is held twice
pub none_is_held_twice : laws.NoneIsHeldTwice
none_is_held_twice = every_run (λ sizes history s. (block : ℕ) → times block (held history) ≤ 1) once_here

holders_here : (history : List Entry) (s : CoreState) → RunFits s history → (i block : ℕ)
    → (is_holder i (holder_of s block) ≡ true) ↔ Contains (grip (own history i)) block
holders_here history s fits i block = (fits.holders.truly i block, fits.holders.all i block)

-- the holder of a block is the process whose entries got it and didn't give it back
pub holders_hold : laws.HoldersHold
holders_hold =
    every_run (λ sizes history s. (i block : ℕ) → (is_holder i (holder_of s block) ≡ true) ↔ Contains (grip (own history i)) block)
    holders_here

-- what is withheld
few_here : (history : List Entry) (s : CoreState) → RunFits s history
    → blocks s.sizes ≤ length (held history) + s.sizes.length * length (stack s.sizes s.words)
    + slack (limits_of s.sizes) history (length history)
few_here history s fits = let (ghosts, h) = fits.meets in few_withheld s.sizes s.words (view_at s) history ghosts fits.shape h

-- few blocks are neither held nor in the stack
pub few_are_withheld : laws.FewAreWithheld
few_are_withheld =
    every_run (λ sizes history s. blocks sizes ≤ length (held history) + sizes.length * length (stack sizes s.words) + slack
    (limits_of sizes) history (length history)) few_here

-- a process keeps at most five batches
pub five_here : (history : List Entry) (s : CoreState) → RunFits s history → (i : ℕ) → i < s.sizes.processes → kept s i ≤ 5 * s.sizes.length
five_here history s fits i li = let (ghosts, h) = fits.meets in keeps_five s.sizes s.words (view_at s) history ghosts i fits.shape li h

-- so does each process of a run
pub each_keeps_five : laws.EachKeepsFive
each_keeps_five = every_run (λ sizes history s. (i : ℕ) → i < sizes.processes → kept s i ≤ 5 * sizes.length) five_here

-- what is read off the words and the view of a process is what it keeps, a number of 32 bits
pub kept_read : (s now : CoreState) (i : ℕ) (words : List ℕ) (v : ProcessView) → s ≡ now → words ≡ s.words → v ≡ view_at now i
    → kept_by s.sizes words i v ≡ kept now i
kept_read s now i words v e f g = rw (f, g, sym e) refl

-- the same of a state that is known by another name
pub kept_five : (s now : CoreState) (history : List Entry) (i : ℕ) → s ≡ now → RunFits s history → i < now.sizes.processes
    → kept now i ≤ 5 * now.sizes.length
kept_five s now history i e fits li =
    let low : i < s.sizes.processes = rw e li in
    rw (sym e) (five_here history s fits i low)

-- so what a process keeps fits 32 bits
pub kept_small : (s now : CoreState) (history : List Entry) (i : ℕ) → s ≡ now → RunFits s history → i < now.sizes.processes
    → kept now i < 2 ^ 32
kept_small s now history i e fits li =
    let low : i < s.sizes.processes = rw e li in
    rw (sym e) (small s.sizes.length (five_here history s fits i low) (length_le_blocks s.sizes fits.shape) fits.shape.few_blocks)
  where
    small : (long : ℕ) {n all : ℕ} → n ≤ 5 * long → 2 * long ≤ all → all ≤ most_blocks → n < 2 ^ 32
    small long five two few = omega (arith, five, two, few)

-- a process of one state is one of the same state by another name
pub process_low : (s now : CoreState) (i : ℕ) → s ≡ now → i < now.sizes.processes → i < s.sizes.processes
process_low s now i e li = rw e li

counted_here : (history : List Entry) (s : CoreState) → RunFits s history
    → total s.sizes.processes (kept s) + length (held history) + s.sizes.length * length (stack s.sizes s.words) ≡ blocks s.sizes
counted_here history s fits = let (ghosts, h) = fits.meets in all_counted s.sizes s.words (view_at s) history ghosts h

-- held blocks, kept ones and those of the stack are all blocks
pub all_are_counted : laws.AllAreCounted
all_are_counted =
    every_run (λ sizes history s. total sizes.processes (kept s) + length (held history) + sizes.length * length
    (stack sizes s.words) ≡ blocks sizes) counted_here

-- the schedule
table_here : (history : List Entry) (s : CoreState) → RunFits s history → (i : ℕ) → i < s.sizes.processes → InTable (view_at s i).pool.plan
table_here history s fits i li =
    let (ghosts, h) = fits.meets in (keeps s.sizes (word_at s.sizes s.words) (view_at s) history ghosts i fits.shape li h).table

-- each plan is within the table of spares
pub plans_within_table : laws.PlansWithinTable
plans_within_table = every_run (λ sizes history s. (i : ℕ) → i < sizes.processes → InTable (view_at s i).pool.plan) table_here

done_since : (begun made : ℕ) {done quantum entries mine rate : ℕ} → done ≡ rate * (entries - begun) + made → entries ≡ mine
    → rate ≡ quantum → done ≡ quantum * (mine - begun) + made
done_since begun made counted e f = rw (e, f) at counted

entries_young : (begun : ℕ) {entries mine size long : ℕ} → entries < begun + size → entries ≡ mine → size ≡ long → mine < begun + long
entries_young begun young e f = omega (arith, young, e, f)

moving_phase : (calls : CallView) (stage : CallStage) → stage ≡ Moving → is_paced calls.call ≡ true
    → call_phase_at calls stage ≡ schedule.Moving calls.steps
moving_phase calls stage e paced = rw (e, paced) refl

done_here : (a : Account) (v : ProcessView) (quantum mine : ℕ) → a.plan ≡ v.pool.plan → CountsSteps a
    → a.phase ≡ schedule.Moving v.calls.steps → a.entries ≡ mine → a.plan.quantum ≡ quantum
    → v.pool.plan.done ≡ quantum * (mine - a.begun) + v.calls.steps
done_here a v quantum mine plan counts phase entries same =
    sym (ap (λ x. x.done) plan) ∙ done_since a.begun v.calls.steps (counts.done v.calls.steps phase) entries same

account_here : (history : List Entry) (s : CoreState) → RunFits s history → (i : ℕ) → i < s.sizes.processes
    → (view_at s i).calls.way ≢ Alone → laws.EndsByAccount s.sizes (own history i) (view_at s i)
account_here history s fits i li calls =
    let (ghosts, h) = fits.meets in
    let sizes = s.sizes in
    let v = view_at s i in
    let ledger = ghosts.ledgers i in
    let used = calls_used sizes i v ledger v.calls.way calls (h.pools i li) in
    let schedule = scheduled sizes (word_at sizes s.words) (view_at s) history ghosts i fits.shape li h in
    let mine = h.entries.each i li in
    let same = mine.sees.own_entries in
    let stands = reached_stands sizes.length (transfer_bound sizes) sizes.quantum ledger.account schedule.fit schedule.reached in
    record {
      account = ledger.account;
      reached = schedule.reached;
      counts = rw same mine.counts;
      plan = used.plan;
      phase = used.phase;
      since =
          λ moving paced. done_here ledger.account v sizes.quantum (length (own history i)) used.plan (stands_counts ledger.account stands)
          (used.phase ∙ moving_phase v.calls v.calls.stage moving paced) (mine.counts.entries ∙ sym (ap (λ xs. length xs) same))
          (reached_sizes sizes.length (transfer_bound sizes) sizes.quantum ledger.account schedule.reached).2;
      young =
          λ pending. entries_young ledger.account.begun
          (stands_in_time ledger.account stands (λ e. pending (sym (ap (λ x. x.pending) used.plan) ∙ e)))
          (mine.counts.entries ∙ sym (ap (λ xs. length xs) same))
          (reached_sizes sizes.length (transfer_bound sizes) sizes.quantum ledger.account schedule.reached).0;
    }

-- a transfer is pending in fewer calls after the one that began it than a batch has blocks
pub transfers_end_in_time : laws.TransfersEndInTime
transfers_end_in_time =
    every_run (λ sizes history s. (i : ℕ) → i < sizes.processes → (view_at s i).calls.way ≢ Alone → laws.EndsByAccount sizes (own history i)
    (view_at s i)) account_here

-- a call that moves a transfer has made fewer steps than the quantum, but for a search
pub quanta_here : (history : List Entry) (s : CoreState) → RunFits s history → (i : ℕ) → i < s.sizes.processes
    → (view_at s i).calls.stage ≡ Moving → is_paced (view_at s i).calls.call ≡ true → (view_at s i).calls.steps < s.sizes.quantum
quanta_here history s fits i li moving paced =
    let (ghosts, h) = fits.meets in
    let v = view_at s i in
    let calls : v.calls.way ≢ Alone = λ alone. in_no_call v.calls.stage
    (alone_between s.sizes (word_at s.sizes s.words) (view_at s) history i li fits.meets alone) moving in
    (calls_used s.sizes i v (ghosts.ledgers i) v.calls.way calls (h.pools i li)).stage.few moving paced
  where
    in_no_call : (stage : CallStage) → is_at_step stage ≡ false → stage ≡ Moving → ⊥
    in_no_call stage outside e = grind arith

-- so has each such call of a run
pub quanta_are_kept : laws.QuantaAreKept
quanta_are_kept =
    every_run (λ sizes history s. (i : ℕ) → i < sizes.processes → (view_at s i).calls.stage ≡ Moving
    → is_paced (view_at s i).calls.call ≡ true → (view_at s i).calls.steps < sizes.quantum) quanta_here
