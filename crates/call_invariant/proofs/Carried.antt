-- a process makes a step of its transfer in a call
use Rattle.std.proofs.Common.{◌≡◌, ◌≢◌, ℕ, ◌+◌, ◌<◌, ◌≤◌, true, false, length, refl, sym, ◌∙◌, ap, [], ◌∷◌, length-append, arith}
use Rattle.std.specs.Prelude.{if◌then◌else◌}
use Rattle.std.proofs.lemmas.Bool.Decides.{nat_tests}
use Rattle.word_layout.specs.Sizes.{Sizes, transfer_bound}
use Rattle.word_layout.specs.Packing.{value_of, reply_of}
use Rattle.word_layout.specs.declared.announced.Wish.{Wish}
use Rattle.word_layout.specs.declared.announced.Wish.TheVariants.{Take, Give}
use Rattle.word_layout.specs.declared.reply.Reply.{Reply}
use Rattle.word_layout.specs.declared.reply.Reply.TheVariants.{Nothing, Took, Gave}
use Rattle.transfer_schedule.specs.Numbers.{Numbers, is_taking, is_giving, after_steps, after_end}
use Rattle.transfer_schedule.specs.Account.{Account}
use Rattle.transfer_schedule.specs.Account as schedule
use Rattle.transfer_schedule.specs.Table.{InTable}
use Rattle.transfer_schedule.proofs.Operations.{one_more_few}
use Rattle.transfer_machine.specs.Loads.{overlay_length}
use Rattle.transfer_machine.specs.Machine.{met_at}
use Rattle.transfer_machine.specs.Stages.{is_rest}
use Rattle.pool_machine.specs.Pools.{pending_of, pool_met_at, pool_ended, step_counted}
use Rattle.transfer_machine.specs.Tries.{is_take}
use Rattle.pool_machine.specs.declared.call.CallStage.TheVariants.{Moving}
use Rattle.transfer_machine.specs.declared.stage.NextStep.{NextStep}
use Rattle.transfer_machine.specs.declared.stage.NextStep.TheVariants.{Rest, Announce, Try, LoadFinalState, LoadReply}
use Rattle.transfer_machine.specs.declared.stage.TryStep.TheVariants.{LoadState}
use Rattle.transfer_machine.specs.declared.transfer.TransferView.{TransferView}
use Rattle.pool_machine.specs.declared.view.PoolView.{PoolView}
use Rattle.pool_machine.specs.declared.view.ProcessView.{ProcessView}
use Rattle.transfer_invariant.specs.Progress.{has_record, has_announced, is_moving, has_only_begun, goes_on}
use Rattle.pool_machine.specs.Steps.{move_counted, call_met_at}
use Rattle.pool_invariant.specs.Stages.{IndexFitsAt}
use Rattle.pool_invariant.specs.StepCount.{steps_before_at}
use Rattle.pool_invariant.specs.Kept.{Answers, GivenToPool}
use Rattle.pool_invariant.proofs.Moved.{step_stays}
use Rattle.pool_invariant.proofs.Steps.{going_pool, step_runs}
use Rattle.history_invariant.specs.Ledger.{Ledger}
use Rattle.history_invariant.specs.Steps.{GoesOn, stepped, announced, ended_with, ended}
use Rattle.history_invariant.specs.Steps as steps
use Rattle.call_invariant.specs.Phases.{call_phase_at}
use Rattle.call_invariant.specs.Ledgers.{found_by, ledger_stepped, ledger_moved_at}
use Rattle.call_invariant.specs.InCalls.{Scheduled, MayChoose, InCalls, CarriesOn}
use Rattle.call_invariant.proofs.Standing.{in_table}
use Rattle.call_invariant.proofs.Moved.{Moves, calls_counted, moves_at, moves_now, counted_calls, phase_goes, phase_ends}

-- a step that doesn't end the transfer
more_left : (sizes : Sizes) (v : TransferView) (s : NextStep) → IndexFitsAt sizes v.loaded s
    → (has_record s ≡ true → overlay_length v.loaded ≤ sizes.processes) → goes_on s ≡ true
    → steps_before_at sizes.processes s + 1 < transfer_bound sizes
more_left sizes v s index few going = grind (arith, nat_tests)

going_is_moving : (s : NextStep) → goes_on s ≡ true → (is_moving s ≡ true) × (has_announced s ≡ true)
going_is_moving s e = (grind arith, grind arith)

moving_not_rest : (s : NextStep) → is_moving s ≡ true → is_rest s ≡ false
moving_not_rest s e = grind arith

going_ledger : (word : ℕ) (s : NextStep) (g : Ledger) → goes_on s ≡ true → ledger_moved_at word s g ≡ ledger_stepped g
going_ledger word s g e = grind arith

less_done : (done before bound : ℕ) → done ≤ before → before + 1 < bound → done + 1 < bound
less_done done before bound h k = omega arith

going_goes : (sizes : Sizes) (v : ProcessView) (g : Ledger) (s : NextStep) → v.transfer.next ≡ s → goes_on s ≡ true → Moves sizes v g
    → (has_record s ≡ true → overlay_length v.transfer.loaded ≤ sizes.processes)
    → GoesOn g (ledger_stepped g)
going_goes sizes v g s e going m few =
    let (moving, sent) = going_is_moving s going in
    let index = rw e at m.runs.index in
    let counted : v.pool.plan.done ≤ steps_before_at sizes.processes s = rw e at m.runs.counted moving in
    let low : v.pool.plan.done + 1 < v.pool.plan.bound =
    rw m.runs.kept.bound (less_done v.pool.plan.done _ (transfer_bound sizes) counted (more_left sizes v.transfer s index few going)) in
    let some : 0 < v.pool.plan.done = m.announced (rw e sent) in
    steps.moves (moves_now sizes v g m) (rw m.plan some) (rw m.plan low)

stepped_phase : (sizes : Sizes) (v : ProcessView) (g : Ledger) (next : NextStep) → Moves sizes v g → is_rest next ≡ false
    → schedule.stepped_in g.account.plan.quantum g.account.phase
    ≡ call_phase_at (calls_counted sizes.quantum next v.calls) (calls_counted sizes.quantum next v.calls).stage
stepped_phase sizes v g next m busy =
    let quantum : g.account.plan.quantum ≡ sizes.quantum = ap (λ plan. plan.quantum) m.plan ∙ m.runs.kept.quantum in
    rw (quantum, m.phase) (phase_goes sizes.quantum v.calls next m.changes busy)

one_step_more : (plan : Numbers) → 0 < (after_steps 1 plan).done
one_step_more plan = omega arith

-- it keeps the age, and leads to no announcement
never_announces : (next : NextStep) → has_only_begun next ≡ false → next ≢ Announce
never_announces next e = λ a. grind arith

going_chooses : (sizes : Sizes) (v : ProcessView) (word : ℕ) (s : NextStep) → goes_on s ≡ true → MayChoose sizes v
    → MayChoose sizes (record v { transfer = met_at sizes v.transfer word s; pool = pool_met_at word v.pool s })
going_chooses sizes v word s going k =
    let stays = step_stays sizes v.transfer word s going in
    record { young = omega (arith, k.young, stays.age); announced = never_announces _ stays.announced }

going_carries : (sizes : Sizes) (i : ℕ) (v : ProcessView) (word : ℕ) (g : Ledger) (s : NextStep) → v.transfer.next ≡ s → goes_on s ≡ true
    → 1 ≤ sizes.processes → Moves sizes v g
    → (has_record s ≡ true → overlay_length v.transfer.loaded ≤ sizes.processes)
    → CarriesOn sizes i (move_counted sizes (record v { transfer = met_at sizes v.transfer word s; pool = pool_met_at word v.pool s })) g
    (ledger_moved_at word s g)
going_carries sizes i v word g s e going some m few =
    let x = met_at sizes v.transfer word s in
    let same = going_pool v.pool word s going in
    let busy = moving_not_rest x.next (let stays = step_stays sizes v.transfer word s going in stays.moving) in
    rw (going_ledger word s g going) (record {
      goes = going_goes sizes v g s e going m few;
      calls = counted_calls sizes i v (record v { transfer = x; pool = pool_met_at word v.pool s }) g (ledger_stepped g) m refl
          (rw same (ap (after_steps 1) m.plan))
          (stepped_phase sizes v g x.next m busy)
          (step_runs sizes v word s e some m.runs few)
          (rw same m.heads)
          (λ sent. rw same (one_step_more v.pool.plan))
          (λ k. going_chooses sizes v word s going k);
    })

-- the announcement
announce_carries : (sizes : Sizes) (i : ℕ) (v : ProcessView) (word : ℕ) (g : Ledger) → v.transfer.next ≡ Announce → 1 ≤ sizes.processes
    → Moves sizes v g
    → CarriesOn sizes i
    (move_counted sizes (record v { transfer = met_at sizes v.transfer word Announce; pool = pool_met_at word v.pool Announce })) g
    (announced g)
announce_carries sizes i v word g e some m =
    let x = met_at sizes v.transfer word Announce in
    let counted : v.pool.plan.done ≤ 0 = rw e at m.runs.counted refl in
    let long : 1 < v.pool.plan.bound = rw m.runs.kept.bound (omega arith) in
    record {
      goes = steps.announces (moves_now sizes v g m) (rw m.plan (omega arith)) (rw m.plan long);
      calls = counted_calls sizes i v (record v { transfer = x; pool = record (step_counted v.pool) { giving = 0 } }) g (announced g) m refl
          (ap (after_steps 1) m.plan)
          (stepped_phase sizes v g (Try false LoadState) m refl)
          (step_runs sizes v word Announce e some m.runs (λ has. absurd (none has)))
          m.heads (λ sent. one_step_more v.pool.plan) (λ k. absurd (k.announced e));
    }
  where
    none : has_record Announce ≡ true → ⊥
    none has = cc

-- the reply: what it says of the plan and of the spares
ended_plan : (pool : PoolView) (reply : Reply)
    → (pool_ended reply (step_counted pool)).plan ≡ after_end (found_by reply) (after_steps 1 pool.plan)
ended_plan pool Nothing = refl
ended_plan pool (Took head) = refl
ended_plan pool Gave = refl

ended_heads : (pool : PoolView) (wish : Wish) (reply : Reply) → pool.plan.pending ≡ pending_of wish → Answers wish reply → InTable pool.plan
    → length pool.heads ≡ pool.plan.spares
    → length (pool_ended reply (step_counted pool)).heads ≡ (pool_ended reply (step_counted pool)).plan.spares
ended_heads pool Take Nothing pending a table h = grind (arith, nat_tests)
ended_heads pool Take (Took head) pending a table h =
    let few = table.take pending in grind (arith, nat_tests, one_more_few pool.plan.spares, length-append pool.heads (head ∷ []))
ended_heads pool Take Gave pending a table h = absurd a
ended_heads pool (Give head) Nothing pending a table h = absurd a
ended_heads pool (Give head) (Took batch) pending a table h = absurd a
ended_heads pool (Give head) Gave pending a table h = grind (arith, nat_tests)

give_found : (wish : Wish) (reply : Reply) → Answers wish reply → is_giving (pending_of wish) ≡ true → found_by reply ≡ true
give_found Take reply a e = grind arith
give_found (Give head) Nothing a e = absurd a
give_found (Give head) (Took batch) a e = refl
give_found (Give head) Gave a e = refl

-- a pending take was wished
pub take_wished : (wish : Wish) → is_taking (pending_of wish) ≡ true → is_take wish ≡ true
take_wished Take e = refl
take_wished (Give head) e = grind arith

found_none : (reply : Reply) → found_by reply ≡ false → reply ≡ Nothing
found_none reply e = grind arith

reply_carries : (sizes : Sizes) (i : ℕ) (v : ProcessView) (word : ℕ) (g : Ledger) → v.transfer.next ≡ LoadReply → 1 ≤ sizes.processes
    → Moves sizes v g → InTable v.pool.plan
    → Answers v.transfer.wish (reply_of (value_of word))
    → (is_take v.transfer.wish ≡ true → reply_of (value_of word) ≡ Nothing → g.found_nothing ≡ true)
    → CarriesOn sizes i
    (move_counted sizes (record v { transfer = met_at sizes v.transfer word LoadReply; pool = pool_met_at word v.pool LoadReply })) g
    (ended (found_by (reply_of (value_of word))) g)
reply_carries sizes i v word g e some m table answers nothing =
    let x = met_at sizes v.transfer word LoadReply in
    let reply = reply_of (value_of word) in
    let counted : v.pool.plan.done ≤ steps_before_at sizes.processes LoadReply = rw e at m.runs.counted refl in
    let low : v.pool.plan.done + 1 ≤ v.pool.plan.bound = rw m.runs.kept.bound (omega arith) in
    let sent : 0 < v.pool.plan.done = m.announced (rw e refl) in
    let pending : v.pool.plan.pending ≡ pending_of v.transfer.wish = m.runs.kept.pending (rw e refl) in
    let wished : g.account.plan.pending ≡ pending_of v.transfer.wish = ap (λ plan. plan.pending) m.plan ∙ pending in
    record {
      goes = steps.ends (found_by reply) (moves_now sizes v g m) (rw m.plan sent) (rw m.plan low)
          (λ giving. give_found v.transfer.wish reply answers (rw wished at giving))
          (λ taking none. nothing (take_wished v.transfer.wish (rw wished at taking)) (found_none reply none));
      calls =
          counted_calls sizes i v (record v { transfer = x; pool = pool_ended reply (step_counted v.pool) }) g
          (ended (found_by reply) g) m refl
          (ap (λ plan. after_end (found_by reply) (after_steps 1 plan)) m.plan ∙ sym (ended_plan v.pool reply))
          (rw m.phase (phase_ends sizes.quantum v.calls m.changes))
          (step_runs sizes v word LoadReply e some m.runs (λ has. absurd (none has)))
          (ended_heads v.pool v.transfer.wish reply pending answers table m.heads)
          (λ after. absurd (over after))
          (λ k. record { young = k.young; announced = λ rest. cc });
    }
  where
    none : has_record LoadReply ≡ true → ⊥
    none has = cc

    over : has_announced Rest ≡ true → ⊥
    over e = cc

-- every step
record MayMeet (sizes : Sizes) (v : TransferView) (word : ℕ) (g : Ledger) (s : NextStep) : Type 0 where
  few : has_record s ≡ true → overlay_length v.loaded ≤ sizes.processes
  answers : s ≡ LoadReply → Answers v.wish (reply_of (value_of word))
  nothing : s ≡ LoadReply → is_take v.wish ≡ true → reply_of (value_of word) ≡ Nothing → g.found_nothing ≡ true

step_carries : (sizes : Sizes) (i : ℕ) (v : ProcessView) (word : ℕ) (g : Ledger) (s : NextStep) → v.transfer.next ≡ s → s ≢ Rest
    → 1 ≤ sizes.processes → Moves sizes v g → InTable v.pool.plan
    → MayMeet sizes v.transfer word g s
    → CarriesOn sizes i (move_counted sizes (record v { transfer = met_at sizes v.transfer word s; pool = pool_met_at word v.pool s })) g
    (ledger_moved_at word s g)
step_carries sizes i v word g Rest e busy some m table may = absurd (busy refl)
step_carries sizes i v word g Announce e busy some m table may = announce_carries sizes i v word g e some m
step_carries sizes i v word g (Try second step) e busy some m table may =
    going_carries sizes i v word g (Try second step) e refl some m may.few
step_carries sizes i v word g LoadFinalState e busy some m table may = going_carries sizes i v word g LoadFinalState e refl some m may.few
step_carries sizes i v word g LoadReply e busy some m table may =
    reply_carries sizes i v word g e some m table (may.answers refl) (may.nothing refl)

-- a transfer step of a call carries its process on
pub transfer_steps_carry : (sizes : Sizes) (i : ℕ) (v : ProcessView) (word : ℕ) (g : Ledger) → InCalls sizes i v g
    → Scheduled sizes g.account → v.calls.stage ≡ Moving → 1 ≤ sizes.processes
    → GivenToPool sizes v.transfer word
    → (v.transfer.next ≡ LoadReply → is_take v.transfer.wish ≡ true → reply_of (value_of word) ≡ Nothing → g.found_nothing ≡ true)
    → CarriesOn sizes i (call_met_at sizes v word Moving) g (ledger_moved_at word v.transfer.next g)
transfer_steps_carry sizes i v word g h s e some given nothing =
    step_carries sizes i v word g v.transfer.next refl (h.stage.pending e) some (moves_at sizes i v g h e) (in_table sizes i v g s h)
    (record { few = given.few; answers = given.answers; nothing = nothing })

-- no step of the transfer makes an entry
pub enters_nothing : (word : ℕ) (s : NextStep) (g : Ledger)
    → ((ledger_moved_at word s g).entries ≡ g.entries)
    × ((ledger_moved_at word s g).seen ≡ g.seen)
    × ((ledger_moved_at word s g).found_nothing ≡ (if has_only_begun s then false else g.found_nothing))
enters_nothing word s g = grind arith
