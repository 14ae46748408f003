-- a call needs few turns of its process: an allocate or a free a quantum and its own one, a search those of two transfers and its own one
use Rattle.std.proofs.Common.{◌≡◌, ◌≢◌, ℕ, ◌+◌, ◌-◌, ◌*◌, ◌<◌, ◌≤◌, ◌==◌, Bool, true, false}
use Rattle.std.proofs.Common.{List, ◌∷◌, [], ◌++◌, length, refl, sym, ap, ◌∙◌, arith}
use Rattle.std.proofs.Common.{get_or-set_other, get_or-set_same, get_or, set}
use Rattle.std.specs.Prelude.{nat_lt, ◌&&◌, ◌||◌, if◌then◌else◌}
use Rattle.std.proofs.lemmas.Bool.Decides.{nat_tests}
use Rattle.word_layout.specs.Sizes.{Sizes, transfer_bound}
use Rattle.word_layout.specs.Names.{word_at}
use Rattle.pool_model.specs.declared.entry.Entry.{Entry}
use Rattle.pool_machine.specs.Pools.{opening_view, view_met}
use Rattle.transfer_machine.specs.Words.{met_word}
use Rattle.transfer_machine.specs.Stages.{is_rest}
use Rattle.transfer_machine.specs.declared.stage.NextStep.{NextStep}
use Rattle.pool_machine.specs.declared.call.Call.{Call}
use Rattle.pool_machine.specs.declared.call.Call.TheVariants.{Allocate, Free, Read, Write, Search}
use Rattle.pool_machine.specs.declared.call.CallStage.{CallStage}
use Rattle.pool_machine.specs.declared.call.CallStage.TheVariants.{Between, Choosing, Moving, Own}
use Rattle.pool_machine.specs.declared.call.Way.{Way}
use Rattle.pool_machine.specs.declared.call.Way.TheVariants.{Fresh, Alone, Calls}
use Rattle.pool_machine.specs.declared.view.ProcessView.{ProcessView}
use Rattle.transfer_schedule.specs.Numbers.{is_idle}
use Rattle.transfer_schedule.specs.declared.pending.Pending.TheVariants.{Idle, Taking, Giving}
use Rattle.transfer_schedule.specs.declared.pending.Pending.{Pending}
use Rattle.transfer_machine.specs.declared.stage.NextStep.TheVariants.{Rest}
use Rattle.batch_invariant.specs.Batches.{ProcessViews}
use Rattle.pool_invariant.specs.StepCount.{OverlayIsFew}
use Rattle.pool_invariant.specs.Holds.{PoolRuns}
use Rattle.pool_machine.specs.Beginning.{before_call, search_begun_by, search_chosen, call_begun}
use Rattle.pool_machine.specs.Laws.{most_moves}
use Rattle.pool_machine.specs.Steps.{is_paced, stage_after, steps_after, call_met_at, call_answer_at}
use Rattle.call_invariant.specs.Phases.{changes_pool}
use Rattle.call_invariant.proofs.Uses.{calls_used, idle_pool_rests}
use Rattle.interleaving_core.specs.CallLaws.{moving_left, left_at, steps_left, is_in_call, GoesOnWith}
use Rattle.interleaving_core.specs.CallLaws.{starts, steps, others, ignored, CallsAreShort}
use Rattle.interleaving_core.specs.Moves.{CoreState, view_at, holds_for, may_start_at, started_at, started, calling_view, with_step}
use Rattle.interleaving_core.specs.Runs.{Turn, Events, IsRun, turns, by_of, is_made, turning_view, after_turn, turn_answer}
use Rattle.interleaving_core.specs.Steps.{is_alone, is_busy, is_at_step, next_action, next_met, next_answer}
use Rattle.interleaving_core.proofs.Standing.{isnt_alone, alone_stage}
use Rattle.interleaving_core.proofs.Joins.{keeps, given}
use Rattle.interleaving_core.proofs.Busy.{begun_calls}
use Rattle.interleaving_core.proofs.Begins.{choosing_in_calls}
use Rattle.interleaving_core.proofs.Runs.{RunFits, turn_low, turn_meets, turn_busy}
use Rattle.interleaving_core.proofs.RunTurns.{own_view}
use Rattle.interleaving_core.proofs.RunCounts.{bounded, left_of, step_counts, isnt_rest, started_steps}
use Rattle.interleaving_core.proofs.CallLaws.{shapes_stay, every_run}

-- a step of a transfer leaves one turn fewer
paced_left : (chosen : Bool) (quantum bound count after : ℕ) (t : Bool) → count < quantum
    → left_at true chosen quantum bound (count + 1) after (if t then Own else Moving) + 1 ≤ quantum - count + 1
paced_left chosen quantum bound count after true lt = omega (arith, lt)
paced_left chosen quantum bound count after false lt = omega (arith, lt)

chosen_left : (quantum bound count done after : ℕ) (t : Bool) → done + 1 ≤ bound → (t ≡ false → after ≡ done + 1)
    → left_at false true quantum bound count after (if t then Own else Moving) + 1 ≤ bound - done + 1
chosen_left quantum bound count done after true low counts = omega (arith, low)
chosen_left quantum bound count done after false low counts = omega (arith, low, counts refl)

met_left : (quantum bound count done after : ℕ) (t : Bool) → done + 1 ≤ bound → (t ≡ false → after ≡ done + 1)
    → left_at false false quantum bound count after (if t then Choosing else Moving) + 1 ≤ bound - done + bound + 1
met_left quantum bound count done after true low counts = omega (arith, low)
met_left quantum bound count done after false low counts = omega (arith, low, counts refl)

moving_step : (paced chosen : Bool) (quantum bound count done after : ℕ) (next : NextStep) → (paced ≡ true → count < quantum)
    → done + 1 ≤ bound → (is_rest next ≡ false → after ≡ done + 1)
    → left_at paced chosen quantum bound (steps_after paced count) after (stage_after paced chosen quantum count next) + 1
    ≤ moving_left paced chosen quantum bound count done
moving_step true chosen quantum bound count done after next few low counts =
    paced_left chosen quantum bound count after (is_rest next || (count + 1 == quantum)) (few refl)
moving_step false true quantum bound count done after next few low counts =
    chosen_left quantum bound count done after (is_rest next) low counts
moving_step false false quantum bound count done after next few low counts =
    met_left quantum bound count done after (is_rest next) low counts

-- a view that makes a turn of a call
pub record Turning (sizes : Sizes) (v : ProcessView) : Type 0 where
  pub calls : is_alone v.calls.way ≡ false
  pub way : v.calls.way ≡ Calls
  pub inside : is_at_step v.calls.stage ≡ true
  pub few : v.calls.stage ≡ Moving → is_paced v.calls.call ≡ true → v.calls.steps < sizes.quantum
  pub busy : v.calls.stage ≡ Moving → is_rest v.transfer.next ≡ false
  pub low : v.calls.stage ≡ Moving → v.pool.plan.done + 1 ≤ transfer_bound sizes
  pub changes : v.calls.stage ≡ Moving → changes_pool v.calls.call ≡ true
  pub waits : v.calls.stage ≡ Moving → v.transfer.next ≢ Rest
  pub rest : v.pool.plan.pending ≡ Idle → v.transfer.next ≡ Rest

outside : (at stage : CallStage) → at ≡ stage → is_at_step stage ≡ false → is_at_step at ≡ true → ⊥
outside at stage e off inside = both_ways off (ap is_at_step (sym e) ∙ inside)
  where
    both_ways : {t : Bool} → t ≡ false → t ≡ true → ⊥
    both_ways e f = grind arith

step_left : (sizes : Sizes) (v : ProcessView) (word : ℕ) (stage : CallStage) → v.calls.stage ≡ stage → Turning sizes v
    → steps_left sizes (call_met_at sizes v word stage) + 1
    ≤ left_at (is_paced v.calls.call) v.calls.chosen sizes.quantum (transfer_bound sizes) v.calls.steps v.pool.plan.done stage
step_left sizes v word Between e k = absurd (outside v.calls.stage Between e refl k.inside)
step_left sizes v word Choosing e k = absurd (outside v.calls.stage Choosing e refl k.inside)
step_left sizes v word Moving e k =
    let met = view_met sizes v word in
    moving_step (is_paced v.calls.call) v.calls.chosen sizes.quantum (transfer_bound sizes) v.calls.steps v.pool.plan.done
    met.pool.plan.done met.transfer.next (k.few e) (k.low e) (step_counts sizes v word v.transfer.next (k.busy e))
step_left sizes v word Own e k = omega arith

next_left : (sizes : Sizes) (v : ProcessView) (word : ℕ) → Turning sizes v
    → steps_left sizes (next_met sizes v word) + 1 ≤ steps_left sizes v
next_left sizes v word k = rw k.calls (step_left sizes v word v.calls.stage refl k)

-- what begins leaves as many turns as it needs at most, and those of a search that is to choose
chooses_left : (bound quantum : ℕ) (t : Bool) (done : ℕ) → done ≡ 0
    → left_at false true quantum bound 0 done (if t then Own else Moving) ≤ bound + 1
chooses_left bound quantum true done none = omega arith
chooses_left bound quantum false done none = omega (arith, none)

begun_left : (quantum bound done : ℕ) (t : Bool) → left_at true true quantum bound 0 done (if t then Own else Moving) ≤ quantum + 1
begun_left quantum bound done true = omega arith
begun_left quantum bound done false = omega arith

met_within : (quantum bound done : ℕ) → left_at false false quantum bound 0 done Moving ≤ 2 * bound + 1
met_within quantum bound done = omega arith

more_left : {a : ℕ} (bound : ℕ) → a ≤ bound + 1 → a ≤ 2 * bound + 1
more_left bound le = omega (arith, le)

search_left : (sizes : Sizes) (v : ProcessView) (t : Bool) → (t ≡ true → (search_chosen v).pool.plan.done ≡ 0)
    → steps_left sizes (search_begun_by t v) ≤ 2 * transfer_bound sizes + 1
search_left sizes v true none =
    more_left (transfer_bound sizes)
    (chooses_left (transfer_bound sizes) sizes.quantum (is_idle (before_call v).pool.plan.pending) (search_chosen v).pool.plan.done
    (none refl))
search_left sizes v false none = met_within sizes.quantum (transfer_bound sizes) v.pool.plan.done

call_left : (sizes : Sizes) (call : Call) (v : ProcessView)
    → (is_idle v.pool.plan.pending ≡ true → (search_chosen v).pool.plan.done ≡ 0)
    → steps_left sizes (call_begun call v) ≤ most_moves sizes call + 1
call_left sizes Allocate v none =
    begun_left sizes.quantum (transfer_bound sizes) (before_call v).pool.plan.done (is_idle (before_call v).pool.plan.pending)
call_left sizes (Free block) v none =
    begun_left sizes.quantum (transfer_bound sizes) (before_call v).pool.plan.done (is_idle (before_call v).pool.plan.pending)
call_left sizes (Read block index) v none = omega arith
call_left sizes (Write block index value) v none = omega arith
call_left sizes Search v none = search_left sizes v (is_idle v.pool.plan.pending) none

-- the view of a process after its turn, and after that of another
pub made_view : (s : CoreState) (turn : Turn) → is_made turn s ≡ true → by_of turn < length s.views
    → view_at (after_turn turn s) (by_of turn) ≡ next_met s.sizes (turning_view turn s)
    (met_word s.sizes s.words (next_action s.sizes (turning_view turn s)))
made_view s turn made lt = rw made (own_view s (by_of turn) (turning_view turn s) lt)

-- a turn leaves the views of other processes
pub other_view : (s : CoreState) (turn : Turn) (i : ℕ) (t : Bool) → by_of turn ≢ i
    → view_at (if t then with_step (by_of turn) (turning_view turn s) s else s) i ≡ view_at s i
other_view s turn i true ne = get_or-set_other s.views (by_of turn) i _ (opening_view s.sizes i) (λ e. ne (sym e))
other_view s turn i false ne = refl

-- a turn that isn't made leaves the state
pub ignored_state : (s : CoreState) (turn : Turn) → is_made turn s ≡ false → after_turn turn s ≡ s
ignored_state s turn off = rw off refl

-- a process in the middle of a call goes on with it
low_test : (a b : ℕ) → a < b → nat_lt a b ≡ true
low_test a b lt = grind (arith, nat_tests)

within_goes : (s : CoreState) (i : ℕ) (call : Call) (low : Bool) (stage : CallStage) → low ≡ true → is_in_call stage ≡ true
    → (low && (is_at_step stage || may_start_at stage s.sizes (holds_for s.holders i call) call (view_at s i))) ≡ true
within_goes s i call low Between e within = cc
within_goes s i call low Choosing e within = rw e refl
within_goes s i call low Moving e within = rw e refl
within_goes s i call low Own e within = rw e refl

-- a process that is in a call makes its turn
pub within_made : (s : CoreState) (i : ℕ) (call : Call) → i < s.sizes.processes → is_in_call (view_at s i).calls.stage ≡ true
    → is_made (Events i call) s ≡ true
within_made s i call li within =
    within_goes s i call (nat_lt i s.sizes.processes) (view_at s i).calls.stage (low_test i s.sizes.processes li) within

-- a turn of a call that is made
not_alone : (way : Way) (stage : CallStage) → (way ≡ Alone → stage ≡ Between) → is_at_step stage ≡ true → is_alone way ≡ false
not_alone Fresh stage alone inside = refl
not_alone Alone stage alone inside = absurd (outside_alone stage (alone refl) inside)
  where
    outside_alone : (stage : CallStage) → stage ≡ Between → is_at_step stage ≡ true → ⊥
    outside_alone Between e inside = cc
    outside_alone Choosing e inside = cc
    outside_alone Moving e inside = cc
    outside_alone Own e inside = cc
not_alone Calls stage alone inside = refl

-- a call that has started is no transfer alone
pub started_calls : (call : Call) (v : ProcessView) (stage : CallStage) → is_alone (started_at stage call v).calls.way ≡ false
started_calls call v Between = begun_calls call v
started_calls call v Choosing = refl
started_calls call v Moving = begun_calls call v
started_calls call v Own = begun_calls call v

calling_calls : (call : Call) (v : ProcessView) (t : Bool) → is_at_step v.calls.stage ≡ t → (v.calls.way ≡ Alone → v.calls.stage ≡ Between)
    → is_alone (if t then v else started call v).calls.way ≡ false
calling_calls call v true inside alone = not_alone v.calls.way v.calls.stage alone inside
calling_calls call v false inside alone = started_calls call v v.calls.stage

way_is : (way : Way) (stage : CallStage) → is_alone way ≡ false → (way ≡ Fresh → stage ≡ Between) → is_at_step stage ≡ true → way ≡ Calls
way_is Fresh stage calls fresh inside = absurd (none stage (fresh refl) inside)
  where
    none : (stage : CallStage) → stage ≡ Between → is_at_step stage ≡ true → ⊥
    none Between e inside = cc
    none Choosing e inside = cc
    none Moving e inside = cc
    none Own e inside = cc
way_is Alone stage calls fresh inside = cc
way_is Calls stage calls fresh inside = refl

inside_is : (v : ProcessView) → is_alone v.calls.way ≡ false → is_busy v ≡ true → is_at_step v.calls.stage ≡ true
inside_is v calls busy = rw calls at busy

-- the view with which a turn is made is about to make a step
pub turn_turns : (history : List Entry) (s : CoreState) (i : ℕ) (call : Call) → RunFits s history → is_made (Events i call) s ≡ true
    → Turning s.sizes (turning_view (Events i call) s)
turn_turns history s i call fits made =
    let turn = Events i call in
    let v = turning_view turn s in
    let xs = set s.views i v in
    let views : ProcessViews = λ o. get_or xs o (opening_view s.sizes o) in
    let li = turn_low s turn made in
    let words = word_at s.sizes s.words in
    let here : views i ≡ v = get_or-set_same s.views i v (opening_view s.sizes i) (rw fits.seats li) in
    let (ghosts, h) = turn_meets s history turn fits made li in
    let calls = calling_calls call (view_at s i) (is_at_step (view_at s i).calls.stage) refl
    (alone_stage s.sizes words (view_at s) history i li fits.meets) in
    let inside = inside_is v calls (turn_busy s history turn fits made li) in
    let pool = h.pools i li in
    let used = calls_used s.sizes i v (ghosts.ledgers i) v.calls.way (isnt_alone v.calls.way calls) (rw here at pool) in
    let kept = keeps s.sizes words views history ghosts i fits.shape li h in
    let runs : PoolRuns s.sizes v = let k = kept.runs in rw here at k in
    let few : OverlayIsFew s.sizes v.transfer = let g = (given s.sizes words views history ghosts i li h).few in rw here at g in
    let busy : v.calls.stage ≡ Moving → is_rest v.transfer.next ≡ false = λ e. isnt_rest v.transfer.next (used.stage.pending e) in
    record {
      calls = calls;
      way = way_is v.calls.way v.calls.stage calls (λ e. ap (λ x. x.calls.stage) (used.fresh e).view) inside;
      inside = inside;
      few = used.stage.few;
      busy = busy;
      low = λ e. left_of s.sizes v runs few (busy e);
      changes = used.stage.changes;
      waits = used.stage.pending;
      rest = idle_pool_rests s.sizes v (rw here at kept);
    }

-- what a turn of a call leaves, and how it is answered
pub after_is : (s : CoreState) (history : List Entry) (i : ℕ) (call : Call) → RunFits s history → is_made (Events i call) s ≡ true
    → is_alone (turning_view (Events i call) s).calls.way ≡ false
    → view_at (after_turn (Events i call) s) i ≡ call_met_at s.sizes (turning_view (Events i call) s)
    (met_word s.sizes s.words (next_action s.sizes (turning_view (Events i call) s))) (turning_view (Events i call) s).calls.stage
after_is s history i call fits made calls =
    made_view s (Events i call) made (rw fits.seats (turn_low s (Events i call) made)) ∙ met_calls s.sizes (turning_view (Events i call) s)
    _ calls
  where
    met_calls : (sizes : Sizes) (v : ProcessView) (word : ℕ) → is_alone v.calls.way ≡ false
        → next_met sizes v word ≡ call_met_at sizes v word v.calls.stage
    met_calls sizes v word calls = rw calls refl

-- what a turn is answered is the answer of its call's step
pub answer_is : (s : CoreState) (i : ℕ) (call : Call) → is_made (Events i call) s ≡ true
    → is_alone (turning_view (Events i call) s).calls.way ≡ false
    → turn_answer (Events i call) s ≡ call_answer_at (turning_view (Events i call) s)
    (met_word s.sizes s.words (next_action s.sizes (turning_view (Events i call) s))) (turning_view (Events i call) s).calls.stage
answer_is s i call made calls = rw made (answer_calls (turning_view (Events i call) s) _ calls)
  where
    answer_calls : (v : ProcessView) (word : ℕ) → is_alone v.calls.way ≡ false → next_answer v word ≡ call_answer_at v word v.calls.stage
    answer_calls v word calls = rw calls refl

-- after each turn of a run the turns that were made and those that are left are at most as many as at first
made_left : (s : CoreState) (history : List Entry) (i : ℕ) (call : Call) → RunFits s history → is_made (Events i call) s ≡ true
    → steps_left s.sizes (view_at (after_turn (Events i call) s) i) + 1 ≤ steps_left s.sizes (turning_view (Events i call) s)
made_left s history i call fits made =
    rw (made_view s (Events i call) made (rw fits.seats (turn_low s (Events i call) made)))
    (next_left s.sizes (turning_view (Events i call) s) _ (turn_turns history s i call fits made))

both : {a b c : ℕ} → a ≤ b → b ≤ c → a ≤ c
both le more = omega (arith, le, more)

-- a process with nothing pending has made no step of a transfer, and so has one that chooses
none_done : (s : CoreState) (history : List Entry) (i : ℕ) → RunFits s history → i < s.sizes.processes
    → ((view_at s i).pool.plan.pending ≡ Idle → (view_at s i).transfer.next ≡ Rest)
    × (is_rest (view_at s i).transfer.next ≡ true → (view_at s i).pool.plan.done ≡ 0)
none_done s history i fits li =
    let (ghosts, h) = fits.meets in
    let kept = keeps s.sizes (word_at s.sizes s.words) (view_at s) history ghosts i fits.shape li h in
    let rests = idle_pool_rests s.sizes (view_at s i) kept in
    let none = (bounded s history i fits li).none in
    (rests, none)

idle_is : (v : ProcessView) → is_idle v.pool.plan.pending ≡ true → v.pool.plan.pending ≡ Idle
idle_is v e = by_pending v.pool.plan.pending e
  where
    by_pending : (p : Pending) → is_idle p ≡ true → p ≡ Idle
    by_pending Idle e = refl
    by_pending Taking e = cc
    by_pending Giving e = cc

chosen_done : (s : CoreState) (history : List Entry) (i : ℕ) → RunFits s history → i < s.sizes.processes
    → is_idle (view_at s i).pool.plan.pending ≡ true → (search_chosen (view_at s i)).pool.plan.done ≡ 0
chosen_done s history i fits li idle =
    let v = view_at s i in
    let (rests, none) = none_done s history i fits li in
    let zero = none (ap is_rest (rests (idle_is v idle))) in
    started_steps Search v Choosing (λ w due. zero) ∙ zero

-- the first step of a call leaves at most its most transfer steps
abbrev pub FirstStepsLeave : Sizes → List Entry → CoreState → Type 0
FirstStepsLeave sizes history s =
    (i : ℕ) (call : Call) → (view_at s i).calls.stage ≡ Between → is_made (Events i call) s ≡ true
    → steps_left sizes (view_at (after_turn (Events i call) s) i) + 1 ≤ most_moves sizes call + 1

-- the first step of a call leaves few turns
pub first_left : (history : List Entry) (s : CoreState) → RunFits s history → FirstStepsLeave s.sizes history s
first_left history s fits i call between made =
    let li = turn_low s (Events i call) made in
    let v = view_at s i in
    let begun : calling_view call v ≡ call_begun call v = rw between refl in
    let most = call_left s.sizes call v (chosen_done s history i fits li) in
    both (made_left s history i call fits made) (rw begun most)

-- each later one leaves one fewer
abbrev pub LaterStepsLeave : Sizes → List Entry → CoreState → Type 0
LaterStepsLeave sizes history s =
    (i : ℕ) (call : Call) → i < sizes.processes → is_in_call (view_at s i).calls.stage ≡ true
    → steps_left sizes (view_at (after_turn (Events i call) s) i) + 1 ≤ steps_left sizes (view_at s i)

at_stage : (paced chosen : Bool) (quantum bound count done : ℕ) (at stage : CallStage) → at ≡ stage
    → left_at paced chosen quantum bound count done at ≤ left_at paced chosen quantum bound count done stage
at_stage paced chosen quantum bound count done at stage e = rw e (omega arith)

inside_left : (sizes : Sizes) (call : Call) (v : ProcessView) (stage : CallStage) → v.calls.stage ≡ stage → is_in_call stage ≡ true
    → (stage ≡ Choosing → (search_chosen v).pool.plan.done ≡ 0)
    → steps_left sizes (if is_at_step stage then v else started_at stage call v)
    ≤ left_at (is_paced v.calls.call) v.calls.chosen sizes.quantum (transfer_bound sizes) v.calls.steps v.pool.plan.done stage
inside_left sizes call v Between e within none = cc
inside_left sizes call v Choosing e within none =
    chooses_left (transfer_bound sizes) sizes.quantum (is_idle (before_call v).pool.plan.pending) (search_chosen v).pool.plan.done
    (none refl)
inside_left sizes call v Moving e within none =
    at_stage (is_paced v.calls.call) v.calls.chosen sizes.quantum
    (transfer_bound sizes) v.calls.steps v.pool.plan.done v.calls.stage Moving e
inside_left sizes call v Own e within none =
    at_stage (is_paced v.calls.call) v.calls.chosen sizes.quantum (transfer_bound sizes) v.calls.steps v.pool.plan.done v.calls.stage Own e

-- each later one leaves one turn fewer
pub later_left : (history : List Entry) (s : CoreState) → RunFits s history → LaterStepsLeave s.sizes history s
later_left history s fits i call li within =
    let v = view_at s i in
    let made = within_made s i call li within in
    let (ghosts, h) = fits.meets in
    let (rests, none) = none_done s history i fits li in
    let chosen = λ (e : v.calls.stage ≡ Choosing). (
    let rest = (choosing_in_calls s.sizes i v (ghosts.ledgers i) e (h.pools i li)).stage.rests e in
    let zero = none (ap is_rest rest) in
    started_steps Search v Choosing (λ w due. zero) ∙ zero
    ) in
    both (made_left s history i call fits made) (inside_left s.sizes call v v.calls.stage refl within chosen)

-- so in a row of turns
pub record Spent (sizes : Sizes) (i n most : ℕ) (t : CoreState) : Type 0 where
  pub past : List Turn
  pub history : List Entry
  pub run : IsRun sizes past history t
  pub left : n + steps_left sizes (view_at t i) ≤ most

spent : (sizes : Sizes) (past : List Turn) (history : List Entry) (i n most : ℕ) (s t : CoreState) → i < sizes.processes
    → IsRun sizes past history s → steps_left sizes (view_at s i) ≤ most → GoesOnWith i n s t → Spent sizes i n most t
spent sizes past history i n most s t li run le (starts same) = record { past = past; history = history; run = run; left = none_more le }
  where
    none_more : {before most : ℕ} → before ≤ most → 0 + before ≤ most
    none_more le = omega (arith, le)
spent sizes past history i n most s t li run le (steps m first old call goes inside) =
    let r = spent sizes past history i m most s old li run le goes in
    let less = every_run LaterStepsLeave later_left sizes r.past r.history old r.run i call li inside in
    record { past = _; history = _; run = turns r.past r.history old (Events i call) r.run; left = one_more m _ r.left less }
  where
    one_more : (m after : ℕ) {before most : ℕ} → m + before ≤ most → after + 1 ≤ before → m + 1 + after ≤ most
    one_more m after le less = omega (arith, le, less)
spent sizes past history i n most s t li run le (others m first old turn goes ne) =
    let r = spent sizes past history i m most s old li run le goes in
    record {
      past = _;
      history = _;
      run = turns r.past r.history old turn r.run;
      left = rw (other_view old turn i (is_made turn old) ne)
          r.left;
    }
spent sizes past history i n most s t li run le (ignored m first old turn goes off) =
    let r = spent sizes past history i m most s old li run le goes in
    record { past = _; history = _; run = turns r.past r.history old turn r.run; left = rw (ignored_state old turn off) r.left }

-- a process of the state is one of the sizes
pub low_here : (sizes : Sizes) (s : CoreState) (i : ℕ) → s.sizes ≡ sizes → i < s.sizes.processes → i < sizes.processes
low_here sizes s i e li = rw e at li

-- a call is answered within its bound of turns
pub calls_are_short : CallsAreShort
calls_are_short sizes past history s run i n call t between made goes =
    let first = every_run FirstStepsLeave first_left sizes past history s run i call between made in
    let low = low_here sizes s i (shapes_stay sizes past history s run) (turn_low s (Events i call) made) in
    let r = spent sizes (past ++ Events i call ∷ []) _ i n (most_moves sizes call) (after_turn (Events i call) s) t low
    (turns past history s (Events i call) run) (one_less first) goes in
    sum_most n (steps_left sizes (view_at t i)) r.left
  where
    one_less : {a b : ℕ} → a + 1 ≤ b + 1 → a ≤ b
    one_less le = omega (arith, le)

    sum_most : (a b : ℕ) {c : ℕ} → a + b ≤ c → a ≤ c
    sum_most a b le = omega (arith, le)
