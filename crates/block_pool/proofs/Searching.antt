-- how a search runs its transfers to their ends, and what its refusal knows
use Rattle.std.proofs.Common.{◌≡◌, ◌≢◌, ℕ, ◌+◌, ◌<◌, ◌≤◌, Bool, true, false, List, [], ◌∷◌, ◌++◌, refl, sym, ap, ◌∙◌, subst, arith}
use Rattle.std.specs.Prelude.{if◌then◌else◌, ◌||◌, ◌*◌, ◌↔◌, nat_lt, Option, None, Some}
use Rattle.std.proofs.lemmas.Bool.{false≢true}
use Rattle.word_layout.specs.Sizes.{Sizes, limits_of, transfer_bound}
use Rattle.word_layout.specs.Packing.{most_age, value_of, reply_of}
use Rattle.word_layout.specs.declared.reply.Reply.{Reply}
use Rattle.word_layout.specs.declared.reply.Reply.TheVariants as reply
use Rattle.word_table.specs.Seats.{Seated}
use Rattle.pool_model.specs.declared.entry.Entry.{Entry}
use Rattle.pool_model.specs.declared.entry.Entry.TheVariants as entry
use Rattle.transfer_schedule.specs.Numbers.{Numbers, is_idle, source_of, after_choice, after_steps, after_end}
use Rattle.transfer_schedule.specs.Account.{Sought}
use Rattle.transfer_schedule.specs.declared.own_step.Source.TheVariants.{Nothing}
use Rattle.transfer_schedule.specs.declared.pending.Pending.TheVariants.{Idle}
use Rattle.transfer_schedule.proofs.Operations.{idle_is, not_idle_busy, choice_sizes, end_sizes, took_same}
use Rattle.transfer_schedule.proofs.Reaching.{reached_sizes}
use Rattle.transfer_machine.specs.Machine.{met_of}
use Rattle.transfer_machine.specs.Stages.{is_rest}
use Rattle.transfer_machine.specs.declared.stage.NextStep.{NextStep}
use Rattle.transfer_machine.specs.declared.stage.NextStep.TheVariants.{Rest, Announce, Try, LoadFinalState, LoadReply}
use Rattle.transfer_machine.specs.declared.transfer.TransferView.{TransferView}
use Rattle.transfer_invariant.specs.Progress.{is_reply}
use Rattle.pool_machine.specs.Beginning.{due, search_chosen, search_begun_by}
use Rattle.pool_machine.specs.OwnSteps.{next_block}
use Rattle.pool_machine.specs.Pools.{pool_ended, pool_met_at, CanCount}
use Rattle.pool_machine.specs.Ready.{CanBegin, CanMove}
use Rattle.pool_machine.specs.declared.call.Call.TheVariants.{Search}
use Rattle.pool_machine.specs.declared.call.CallStage.{CallStage}
use Rattle.pool_machine.specs.declared.call.CallStage.TheVariants.{Choosing, Moving, Own}
use Rattle.pool_machine.specs.declared.call.Way.{Way}
use Rattle.pool_machine.specs.declared.call.Way.TheVariants.{Alone, Calls}
use Rattle.pool_machine.specs.declared.view.PoolView.{PoolView}
use Rattle.pool_machine.specs.declared.view.ProcessView.{ProcessView}
use Rattle.history_invariant.specs.Ledger.{Ledger}
use Rattle.history_invariant.specs.Fits.{LedgerFits, HadFewNow}
use Rattle.history_invariant.proofs.Refusals.{search_had_few}
use Rattle.call_invariant.specs.InCalls.{InCalls}
use Rattle.call_invariant.proofs.Owned.{no_block_has_none}
use Rattle.call_invariant.proofs.Standing.{shape_fits}
use Rattle.call_invariant.proofs.Uses.{calls_used}
use Rattle.interleaving_core.specs.Moves.{may_go, may_start_at, started_at}
use Rattle.interleaving_core.specs.Runs.{entries_of}
use Rattle.interleaving_core.specs.StepLaws.{word_met, StepIsDue}
use Rattle.interleaving_core.specs.Steps.{is_at_step, next_answer, next_met}
use Rattle.pool_table.specs.declared.about.About.TheVariants.{InCall}
use Rattle.pool_table.specs.Minds.{number_of}
use Rattle.pool_table.specs.Rule.{views_of}
use Rattle.pool_table.specs.Turns.{turning, seen_after, MayTurn}
use Rattle.pool_table.specs.Views.{SeatView, longest}
use Rattle.pool_table.specs.Steps.{Stepped}
use Rattle.pool_table.proofs.Due.{begun_minds, begun_here}
use Rattle.pool_table.proofs.Ready.{call_can_step, seat_can_begin}
use Rattle.pool_table.proofs.Seen.{longest_is_history}
use Rattle.pool_table.proofs.Transfers.{due_there}
use Rattle.pool_table.proofs.Turns.{seat_of, seat_step_due}
use Rattle.block_pool.specs.declared.process.Process.{Process}
use Rattle.block_pool.specs.declared.pool.Answer.{Answer}
use Rattle.block_pool.specs.declared.pool.Answer.TheVariants as answer
use Rattle.block_pool.specs.Passing.{BetweenCalls, pass_of}
use Rattle.block_pool.specs.Calls.{Counted, HasNoBlock}
use Rattle.block_pool.specs.Running.{calling, beginning, owning, CanBeginDue, transfer_begun, pool_begun_by, CanGo, IsOwning}
use Rattle.block_pool.specs.Moves.{PoolMoved, MovedOn, AgesWithin}
use Rattle.block_pool.specs.Searching.{PlanEnds, rests, ends, PlanSought, Searched, WasRefusedNow, seeking, IsSeeking}
use Rattle.block_pool.specs.Searching.{CanChoose, HasRun, SoughtOne, SearchCalled}
use Rattle.block_pool.proofs.Calls.{low_test, call_starts, starts_there, allocate_entries}
use Rattle.block_pool.proofs.Going.{can_act, becomes}
use Rattle.block_pool.proofs.Moving.{none_counted, goes_on, moved_more, rests_after, aged_at, plan_stays}
use Rattle.block_pool.proofs.Standing.{stands}

-- how a search begins
young_enough : (sizes : Sizes) (x : Process) → BetweenCalls sizes x → x.transfer.age < most_age sizes
    → nat_lt x.seat.view.mind.view.transfer.age (most_age sizes) ≡ true
young_enough sizes x f young =
    low_test x.seat.view.mind.view.transfer.age (most_age sizes)
    (subst (λ (t : TransferView). t.age < most_age sizes) (sym f.transfer) young)

starts : (sizes : Sizes) (x : Process) → BetweenCalls sizes x → x.transfer.age < most_age sizes
    → CanGo sizes Search (search_begun_by (is_idle x.pool.plan.pending) x.seat.view.mind.view) x.seat.view
starts sizes x f young =
    let v = x.seat.view.mind.view in
    subst (λ (p : PoolView). CanGo sizes Search (search_begun_by (is_idle p.plan.pending) v) x.seat.view) f.pool
    (call_starts sizes Search x f (young_enough sizes x f young) refl tt)

-- with nothing pending it is at its choice at once
pub starts_choosing : (sizes : Sizes) (x : Process) → BetweenCalls sizes x → x.transfer.age < most_age sizes → x.pool.plan.pending ≡ Idle
    → CanChoose sizes x
starts_choosing sizes x f young idle =
    let v = x.seat.view.mind.view in
    record {
      transfer = f.transfer;
      pool = f.pool;
      go = subst (λ t. CanGo sizes Search (search_begun_by t v) x.seat.view) (ap is_idle idle) (starts sizes x f young);
    }

-- else at a step of the transfer that it meets
pub starts_seeking : (sizes : Sizes) (x : Process) → BetweenCalls sizes x → x.transfer.age < most_age sizes → x.pool.plan.pending ≢ Idle
    → IsSeeking sizes false x
starts_seeking sizes x f young busy =
    let v = x.seat.view.mind.view in
    let parts : TransferView → PoolView → ProcessView = λ t p. record { transfer = t; pool = p; calls = (seeking false x).calls } in
    let go = subst (λ t. CanGo sizes Search (search_begun_by t v) x.seat.view) (not_idle_busy x.pool.plan.pending busy)
    (starts sizes x f young) in
    subst (λ w. CanGo sizes Search w x.seat.view)
    (ap (λ (t : TransferView). parts t v.pool) f.transfer ∙ ap (λ (p : PoolView). parts x.transfer p) f.pool) go

-- its choice begins what is due
pub chosen_begins : (sizes : Sizes) (x : Process) → CanChoose sizes x → CanBeginDue x.pool
chosen_begins sizes x c =
    let begins : CanBegin x.seat.view.mind.view = seat_can_begin x.seat.view c.go.can.among c.go.can.of_process in
    subst CanBeginDue c.pool (record { heads = begins.heads; fits = begins.fits })

-- a search that has begun what is due can make its next step
pub chosen_starts : (sizes : Sizes) (x y : Process) → CanChoose sizes x → y.seat ≡ x.seat
    → y.transfer ≡ transfer_begun (due x.pool) x.transfer → y.pool ≡ pool_begun_by (due x.pool) x.pool
    → CanGo sizes Search (beginning Search y) y.seat.view
chosen_starts sizes x y c seat transfer pool = starts_there sizes Search x y c.transfer c.pool seat transfer pool c.go

-- it stands at a step of the transfer, where that is pending
pub begins_seeking : (sizes : Sizes) (x : Process) → x.pool.plan.pending ≢ Idle → CanGo sizes Search (beginning Search x) x.seat.view
    → IsSeeking sizes true x
begins_seeking sizes x busy go =
    subst (λ w. CanGo sizes Search w x.seat.view)
    (ap (λ idle. record { transfer = x.transfer; pool = x.pool; calls = calling (if idle then Own else Moving) Search 0 })
    (not_idle_busy x.pool.plan.pending busy)) go

-- a step of its transfer can be made
pub can_seek : (sizes : Sizes) (chosen : Bool) (x : Process) → IsSeeking sizes chosen x → CanMove sizes (seeking chosen x)
can_seek sizes chosen x go = can_act sizes Search (seeking chosen x) x.seat.view go refl

-- its pool counts each step at once
pub pool_last : (next : NextStep) (word : ℕ) (old : PoolView) (ended : Bool) (new : PoolView) → ended ≡ true
    → PoolMoved next 0 word old ended new → new ≡ pool_met_at word old next
pool_last next word old ended new e moved =
    let m = subst (λ b. PoolMoved next 0 word old b new) e moved in m.pool ∙ ap (λ p. pool_met_at word p next) (none_counted old)

-- the running pool after a step that doesn't end the transfer is the machine's
pub pool_counts : (next : NextStep) (word : ℕ) (old : PoolView) (ended : Bool) (new : PoolView) (plan : Numbers) → ended ≡ false
    → PoolMoved next 0 word old ended new → plan ≡ after_steps 1 new.plan → record new { plan = plan } ≡ pool_met_at word old next
pool_counts next word old ended new plan e moved counted_one =
    let m = subst (λ b. PoolMoved next 0 word old b new) e moved in
    ap (λ (z : Numbers). record new { plan = z }) counted_one ∙ (m.pool ∙ ap (λ p. pool_met_at word p next) (none_counted old))

-- such a step leaves the pool fit to count steps
pub pool_stays : (next : NextStep) (word : ℕ) (old : PoolView) (ended : Bool) (new : PoolView) → ended ≡ false
    → PoolMoved next 0 word old ended new → CanCount old → CanCount new
pool_stays next word old ended new e moved can =
    let same : new.plan ≡ old.plan = plan_stays 1 ended old.plan old.plan new.plan e refl moved.plan in
    record {
      pending = subst (λ (p : Numbers). p.pending ≢ Idle) (sym same) can.pending;
      some = subst (λ (p : Numbers). 1 ≤ p.quantum) (sym same) can.some;
      within = subst (λ (p : Numbers). p.done + 1 ≤ p.bound) (sym same) can.within;
    }

-- and leads to the next one, or to what follows the transfer
abbrev seeking_at : CallStage → Bool → TransferView → PoolView → ProcessView
seeking_at stage chosen t pool =
    record { transfer = t; pool = pool; calls = record { stage = stage; call = Some Search; steps = 0; chosen = chosen; way = Calls } }

abbrev stage_by : Bool → Bool → CallStage
stage_by chosen ended = if ended then (if chosen then Own else Choosing) else Moving

sought_view : (sizes : Sizes) (chosen : Bool) (x y : Process) (ended : Bool) → IsSeeking sizes chosen x → (m : SoughtOne sizes x ended y)
    → next_met sizes (seeking chosen x) m.word ≡ seeking_at (stage_by chosen ended) chosen y.transfer y.pool
sought_view sizes chosen x y ended go m =
    let t = met_of sizes x.transfer m.word in
    let pool = pool_met_at m.word x.pool x.transfer.next in
    let rests : is_rest t.next ≡ ended = rests_after sizes x.transfer m.word x.transfer.next (can_seek sizes chosen x go).go.busy
    ∙ sym m.last in
    ap (λ b. seeking_at (stage_by chosen b) chosen t pool) rests
    ∙ (ap (λ z. seeking_at (stage_by chosen ended) chosen z pool) (sym m.transfer)
    ∙ ap (seeking_at (stage_by chosen ended) chosen y.transfer) (sym m.pool))

-- after it the search is at a step of the same transfer
pub seeks_on : (sizes : Sizes) (chosen : Bool) (x y : Process) (ended : Bool) → ended ≡ false → IsSeeking sizes chosen x
    → SoughtOne sizes x ended y → IsSeeking sizes chosen y
seeks_on sizes chosen x y ended e go m =
    let view : next_met sizes (seeking chosen x) m.word ≡ seeking chosen y = sought_view sizes chosen x y ended go m
    ∙ ap (λ b. seeking_at (stage_by chosen b) chosen y.transfer y.pool) e in
    goes_on sizes Search (seeking chosen x) (seeking chosen y) m.word x.seat.view y.seat.view go m.stepped refl view refl

-- with nothing pending after a transfer that it met, a search chooses
at_choice : (sizes : Sizes) (x y : Process) (word : ℕ) → IsSeeking sizes false x → Stepped (InCall Search) x.seat.view word y.seat.view
    → next_met sizes (seeking false x) word ≡ seeking_at Choosing false y.transfer y.pool → CanChoose sizes y
at_choice sizes x y word go s is =
    let v = y.seat.view.mind.view in
    let view : v ≡ seeking_at Choosing false y.transfer y.pool = becomes sizes Search (seeking false x) x.seat.view y.seat.view word go s
    ∙ is in
    let stage : v.calls.stage ≡ Choosing = ap (λ (z : ProcessView). z.calls.stage) view in
    let may : may_go sizes true Search v ≡ true = ap (λ k. is_at_step k || may_start_at k sizes true Search v) stage in
    record {
      transfer = ap (λ (z : ProcessView). z.transfer) view;
      pool = ap (λ (z : ProcessView). z.pool) view;
      go = record {
        can = call_can_step sizes Search y.seat.view (ap (λ (z : SeatView). z.of_process) s.stays ∙ go.can.of_process)
            (ap (λ (z : SeatView). z.sizes) s.stays ∙ go.can.shape) s.among may tt;
        view = ap (λ k. if is_at_step k then v else started_at k Search v) stage;
      };
    }

-- after the last one it is at its choice, or at its own step where it had chosen
pub seek_ends : (sizes : Sizes) (chosen : Bool) (x y : Process) (ended : Bool) → ended ≡ true → IsSeeking sizes chosen x
    → SoughtOne sizes x ended y → HasRun sizes chosen y
seek_ends sizes true x y ended e go m =
    let view : next_met sizes (seeking true x) m.word ≡ owning Search 0 y = sought_view sizes true x y ended go m
    ∙ ap (λ b. seeking_at (stage_by true b) true y.transfer y.pool) e in
    goes_on sizes Search (seeking true x) (owning Search 0 y) m.word x.seat.view y.seat.view go m.stepped refl view refl
seek_ends sizes false x y ended e go m =
    at_choice sizes x y m.word go m.stepped
    (sought_view sizes false x y ended go m ∙ ap (λ b. seeking_at (stage_by false b) false y.transfer y.pool) e)

-- what a step leaves of the seat, and its age
pub sought_more : (sizes : Sizes) (chosen : Bool) (n : ℕ) (before : SeatView) (x y : Process) (ended : Bool) → IsSeeking sizes chosen x
    → SoughtOne sizes x ended y → MovedOn before n x.seat.view → MovedOn before (n + 1) y.seat.view
sought_more sizes chosen n before x y ended go m =
    moved_more sizes Search (seeking chosen x) n before x.seat.view y.seat.view m.word go m.stepped refl (λ _. refl)

-- a step of a search leaves the age within the bound that it had
pub sought_aged : (sizes : Sizes) (chosen : Bool) (most : ℕ) (x y : Process) (ended : Bool) → IsSeeking sizes chosen x
    → SoughtOne sizes x ended y → AgesWithin most x.transfer → AgesWithin most y.transfer
sought_aged sizes chosen most x y ended go m h =
    subst (AgesWithin most) (sym m.transfer)
    (aged_at sizes most x.transfer m.word x.transfer.next refl (can_seek sizes chosen x go).go.busy h)

-- the steps of two transfers in turn
pub moved_both : (before : SeatView) (a b : ℕ) (v w : SeatView) → MovedOn before a v → MovedOn v b w → MovedOn before (a + b) w
moved_both before a b v w first second = record {
  stays = second.stays ∙ ap (λ (z : SeatView). record z { mind = w.mind }) first.stays;
  number = second.number ∙ first.number;
  seen = second.seen ∙ first.seen;
  known = second.known ∙ first.known;
  entries = second.entries ∙ first.entries;
  moves = let m = first.moves in let n = second.moves in omega (arith, m, n);
}

-- the plan after a step of a transfer that goes on, and after its last one
plan_goes : (word : ℕ) (pool : PoolView) (s : NextStep) → s ≢ Rest → is_reply s ≡ false
    → (pool_met_at word pool s).plan ≡ after_steps 1 pool.plan
plan_goes word pool Rest busy e = absurd (busy refl)
plan_goes word pool Announce busy e = refl
plan_goes word pool (Try second step) busy e = refl
plan_goes word pool LoadFinalState busy e = refl
plan_goes word pool LoadReply busy e = absurd (false≢true (sym e))

record EndsBy (plan new : Numbers) : Type 0 where
  found : Bool
  is : new ≡ after_end found plan

ends_by_reply : (r : Reply) (pool : PoolView) → EndsBy pool.plan (pool_ended r pool).plan
ends_by_reply reply.Nothing pool = record { found = false; is = refl }
ends_by_reply (reply.Took head) pool = record { found = true; is = refl }
ends_by_reply reply.Gave pool = record { found = true; is = refl }

plan_ends : (word : ℕ) (pool : PoolView) (s : NextStep) → is_reply s ≡ true
    → EndsBy (after_steps 1 pool.plan) (pool_met_at word pool s).plan
plan_ends word pool Rest e = absurd (false≢true e)
plan_ends word pool Announce e = absurd (false≢true e)
plan_ends word pool (Try second step) e = absurd (false≢true e)
plan_ends word pool LoadFinalState e = absurd (false≢true e)
plan_ends word pool LoadReply e = ends_by_reply (reply_of (value_of word)) (record pool { plan = after_steps 1 pool.plan })

one_step_more : (n : ℕ) (plan : Numbers) → after_steps 1 (after_steps n plan) ≡ after_steps (n + 1) plan
one_step_more n plan = let same : plan.done + n + 1 ≡ plan.done + (n + 1) = omega arith in ap (λ k. record plan { done = k }) same

-- the plan counts one more step
pub plan_on : (sizes : Sizes) (chosen : Bool) (n : ℕ) (first : Numbers) (x y : Process) (ended : Bool) → ended ≡ false
    → IsSeeking sizes chosen x → SoughtOne sizes x ended y → x.pool.plan ≡ after_steps n first → y.pool.plan ≡ after_steps (n + 1) first
plan_on sizes chosen n first x y ended e go m is =
    ap (λ (p : PoolView). p.plan) m.pool
    ∙ (plan_goes m.word x.pool x.transfer.next (can_seek sizes chosen x go).go.busy (sym m.last ∙ e)
    ∙ (ap (after_steps 1) is ∙ one_step_more n first))

-- the plan of a transfer that ended after so many steps
pub plan_run : (sizes : Sizes) (chosen : Bool) (n : ℕ) (first : Numbers) (x y : Process) (ended : Bool) → ended ≡ true
    → IsSeeking sizes chosen x → SoughtOne sizes x ended y → x.pool.plan ≡ after_steps n first
    → PlanEnds first (n + 1) y.pool.plan
plan_run sizes chosen n first x y ended e go m is =
    let count = (can_seek sizes chosen x go).go.count in
    let last = plan_ends m.word x.pool x.transfer.next (sym m.last ∙ e) in
    let busy : first.pending ≢ Idle = subst (λ (p : Numbers). p.pending ≢ Idle) is count.pending in
    let within : first.done + n + 1 ≤ first.bound = subst (λ (p : Numbers). p.done + 1 ≤ p.bound) is count.within in
    let becomes_so : y.pool.plan ≡ after_end last.found (after_steps (n + 1) first) = ap (λ (p : PoolView). p.plan) m.pool
    ∙ (last.is ∙ ap (after_end last.found) (ap (after_steps 1) is ∙ one_step_more n first)) in
    subst (PlanEnds first (n + 1)) (sym becomes_so)
    (ends (n + 1) last.found (not_idle_busy first.pending busy) (omega arith) (omega (arith, within)))

-- a run to the end takes no more steps than a transfer, and leaves its bound
pub few_steps : (plan : Numbers) (n : ℕ) (ran : Numbers) → PlanEnds plan n ran → n ≤ plan.bound
few_steps plan n ran (rests idle) = omega arith
few_steps plan n ran (ends k found busy some within) = omega (arith, within)

-- an ended transfer leaves the plan's bound
pub same_bound : (plan : Numbers) (n : ℕ) (ran : Numbers) → PlanEnds plan n ran → ran.bound ≡ plan.bound
same_bound plan n ran (rests idle) = refl
same_bound plan n ran (ends k found busy some within) = (let (l, b, q) = end_sizes (after_steps k plan) found in b)

-- so does a choice
pub chosen_bound : (plan : Numbers) → (after_choice plan).bound ≡ plan.bound
chosen_bound plan = (let (l, b, q) = choice_sizes plan in b)

-- where nothing is pending there is nothing to run
pub nothing_runs : (plan : Numbers) → plan.pending ≡ Idle → PlanEnds plan 0 plan
nothing_runs plan idle = rests (ap is_idle idle)

-- nothing is pending after it
pub none_pending : (plan : Numbers) (n : ℕ) (ran : Numbers) → PlanEnds plan n ran → is_idle ran.pending ≡ true
none_pending plan n ran (rests idle) = idle
none_pending plan n ran (ends k found busy some within) = grind arith

-- a plan between two calls has the transfer's bound
pub plan_bound : (sizes : Sizes) (x : Process) → BetweenCalls sizes x → x.pool.plan.bound ≡ transfer_bound sizes
plan_bound sizes x f =
    let s = stands sizes x f in
    let v = x.seat.view in
    let (l, b, q) = reached_sizes v.sizes.length (transfer_bound v.sizes) v.sizes.quantum s.account s.accounted.reached in
    sym (ap (λ (p : PoolView). p.plan.bound) f.pool)
    ∙ (sym (ap (λ (z : Numbers). z.bound) s.accounted.plan) ∙ (b ∙ ap (λ (z : Sizes). transfer_bound z) f.shape))

-- what the invariant knows of a process that is to make a step of a call: a ledger that goes with its view and fits the history
record HasLedger (sizes : Sizes) (history : List Entry) (i : ℕ) (w : ProcessView) : Type 0 where
  ledger : Ledger
  calls : InCalls sizes i w ledger
  fits : LedgerFits (limits_of sizes) (transfer_bound sizes) sizes.quantum history i ledger

not_alone : (way : Way) → way ≡ Calls → way ≢ Alone
not_alone way e = λ is. grind arith

ledger_there : (sizes : Sizes) (words : List ℕ) (views : ℕ → ProcessView) (history : List Entry) (i : ℕ) (w : ProcessView)
    → StepIsDue sizes words views history i → views i ≡ w → w.calls.way ≡ Calls → HasLedger sizes history i w
ledger_there sizes words views history i w due here way =
    let (ghosts, holds) = due.table.meets in
    let alone = not_alone (views i).calls.way (ap (λ (z : ProcessView). z.calls.way) here ∙ way) in
    record {
      ledger = ghosts.ledgers i;
      calls = subst (λ z. InCalls sizes i z (ghosts.ledgers i)) here
          (calls_used sizes i (views i) (ghosts.ledgers i) (views i).calls.way alone (holds.pools i due.table.low));
      fits = holds.entries.each i due.table.low;
    }

-- a transfer that a search meets was announced
pub met_was_announced : (sizes : Sizes) (x : Process) → IsSeeking sizes false x → x.transfer.next ≢ Announce
met_was_announced sizes x go =
    let d = due_there sizes (InCall Search) x.seat.view go.can in
    let known = ledger_there x.seat.view.sizes go.can.among.words d.views d.history d.process (seeking false x) d.due
    (d.here ∙ go.view) refl in
    (known.calls.choice refl).announced

-- so its age stays in that transfer
pub met_ages : (sizes : Sizes) (x : Process) → IsSeeking sizes false x → AgesWithin x.transfer.age x.transfer
met_ages sizes x go = record { within = omega arith; announced = λ is. absurd (met_was_announced sizes x go is) }

-- a begun transfer raises the age by one at most
pub begun_ages : (t : TransferView) → AgesWithin (t.age + 1) t
begun_ages t = record { within = omega arith; announced = λ _. omega arith }

-- a search that finds no block had few unheld blocks after its process's last entry
module _ (sizes : Sizes) (x : Process) (y : SeatView) (word : ℕ) (go : IsOwning sizes Search 0 x)
    (s : Stepped (InCall Search) x.seat.view word y) (none : next_block x.pool ≡ None) where
  refused_number : x.transfer.number ≡ number_of x.seat.view.mind
  refused_number = sym (ap (λ (w : ProcessView). w.transfer.number) go.view) ∙ s.owner

  refused_entry : (met : ℕ) → entries_of (next_answer (turning (InCall Search) x.seat.view.mind.view) met)
      ≡ entry.Dry (number_of x.seat.view.mind) ∷ []
  refused_entry met =
      ap (λ z. entries_of (next_answer z met)) go.view
      ∙ allocate_entries Search (number_of x.seat.view.mind) met None x refl refused_number (sym none)

  refused_seen : y.mind.seen ≡ s.made.held.history ++ entry.Dry (number_of x.seat.view.mind) ∷ []
  refused_seen =
      let v = x.seat.view in
      let m = s.made in
      let seat = seat_of m.words m.views m.number v m.held m.seated go.can.of_process in
      let all = longest_is_history v.sizes m.words m.held.minds m.views m.held.history seat.numbered seat.holds in
      ap (λ (z : SeatView). z.mind.seen) m.learned
      ∙ (ap (λ l. seen_after l m.views v.mind.seen) (refused_entry (word_met v.sizes m.words (turning (InCall Search) v.mind.view)))
      ∙ ap (λ l. l ++ entry.Dry (number_of v.mind) ∷ []) all)

  refused_few : HadFewNow (limits_of x.seat.view.sizes) s.made.held.history (number_of x.seat.view.mind)
  refused_few =
      let v = x.seat.view in
      let m = s.made in
      let n = number_of v.mind in
      let w = turning (InCall Search) v.mind.view in
      let may : MayTurn v.sizes (InCall Search) v.mind = subst (λ z. MayTurn z (InCall Search) v.mind) (sym go.can.shape) go.can.may in
      let due_now = seat_step_due m.words m.views m.number v (InCall Search) m.held m.seated go.can.of_process may in
      let known = ledger_there v.sizes m.words (views_of (begun_minds n w m.held.minds)) m.held.history n (owning Search 0 x) due_now
      (begun_here n w m.held.minds ∙ go.view) refl in
      let phase : known.ledger.account.phase ≡ Sought = known.calls.phase in
      let nothing : source_of known.ledger.account.plan ≡ Nothing = ap source_of known.calls.plan ∙ no_block_has_none x.pool none in
      search_had_few (limits_of v.sizes) (transfer_bound v.sizes) v.sizes.quantum m.held.history n known.ledger
      (shape_fits v.sizes due_now.table.shape) known.fits phase nothing

-- a search that got nothing has its moment within its own call
pub was_refused_now : (sizes : Sizes) (n : ℕ) (old : Seated SeatView) (x : Process) (new : Seated SeatView) (word : ℕ)
    → MovedOn old.view n x.seat.view → IsOwning sizes Search 0 x → Stepped (InCall Search) x.seat.view word new.view
    → next_block x.pool ≡ None → WasRefusedNow (pass_of old) (pass_of new)
was_refused_now sizes n old x new word h go s none =
    let past = s.made.held.history in
    let here : HadFewNow (limits_of x.seat.view.sizes) past (number_of old.view.mind) =
    subst (HadFewNow (limits_of x.seat.view.sizes) past) h.number (refused_few sizes x new.view word go s none) in
    record {
      past = past;
      ends = refused_seen sizes x new.view word go s none ∙ ap (λ i. past ++ entry.Dry i ∷ []) h.number;
      had_few = subst (λ (z : Sizes). HadFewNow (limits_of z) past (number_of old.view.mind)) (ap (λ (v : SeatView). v.sizes) h.stays) here;
    }

-- what a search does to a pass: its steps
pub search_counted : (sizes : Sizes) (made : Entry) (before after : ℕ) (x y : Process) → x.seat.view.sizes ≡ sizes
    → SearchCalled sizes made before after x y
    → Counted (2 * transfer_bound x.seat.view.sizes) before after (pass_of x.seat) (pass_of y.seat)
search_counted sizes made before after x y shape called = record {
  moved = called.moved;
  few = subst (λ (z : Sizes). called.moved ≤ 2 * transfer_bound z) (sym shape) called.few;
  steps = called.steps;
  moves = called.call.moves;
}

-- its plan, with which nothing is pending
pub searched_so : (sizes : Sizes) (made : Entry) (before after : ℕ) (x y : Process) (got : Option ℕ) (a : Answer) → BetweenCalls sizes x
    → BetweenCalls sizes y → (called : SearchCalled sizes made before after x y) → ((got ≡ None) ↔ HasNoBlock called.ran)
    → ((a ≡ answer.Dry) ↔ (got ≡ None)) → Searched a (pass_of x.seat) (pass_of y.seat)
searched_so sizes made before after x y got a f g called none is = record {
  moved = called.moved;
  moves = called.call.moves;
  ran = called.ran;
  sought = subst (λ (p : PoolView). PlanSought p.plan called.moved called.ran) (sym f.pool) called.sought;
  own = ap (λ (p : PoolView). p.plan) g.pool ∙ called.own;
  dry = ((λ e. none.0 (is.0 e)), (λ e. is.1 (none.1 e)));
}

-- nothing is pending after a search
pub search_rests : (sizes : Sizes) (made : Entry) (before after : ℕ) (x y : Process) → BetweenCalls sizes y
    → SearchCalled sizes made before after x y → (pass_of y.seat).plan.pending ≡ Idle
search_rests sizes made before after x y g called =
    let sought = called.sought in
    ap (λ (p : PoolView). p.plan.pending) g.pool
    ∙ (ap (λ (z : Numbers). z.pending) called.own
    ∙ ((took_same called.ran).pending ∙ idle_is called.ran.pending (none_pending _ _ called.ran sought.runs)))

-- and its age
pub search_aged : (sizes : Sizes) (made : Entry) (before after : ℕ) (x y : Process) → BetweenCalls sizes x → BetweenCalls sizes y
    → SearchCalled sizes made before after x y → (pass_of y.seat).age ≤ (pass_of x.seat).age + 1
search_aged sizes made before after x y f g called =
    let old = ap (λ (t : TransferView). t.age) f.transfer in
    let new = ap (λ (t : TransferView). t.age) g.transfer in
    let age = called.age in
    omega (arith, old, new, age)
