-- the steps that a call makes of the pending transfer
use Rattle.std.proofs.Common.{◌≡◌, ◌≢◌, ℕ, ◌+◌, ◌<◌, ◌≤◌, ◌==◌, Bool, true, false, List, [], ◌++◌, refl, sym, ap, ◌∙◌, subst, arith}
use Rattle.std.specs.Prelude.{if◌then◌else◌, ◌||◌, Some}
use Rattle.std.proofs.lemmas.List.{append-nil}
use Rattle.std.proofs.lemmas.Bool.Decides.{nat_tests}
use Rattle.word_layout.specs.Sizes.{Sizes}
use Rattle.pool_model.specs.History.{grip}
use Rattle.transfer_schedule.specs.Numbers.{Numbers, is_idle, after_steps, after_end}
use Rattle.transfer_schedule.specs.declared.pending.Pending.TheVariants.{Idle}
use Rattle.transfer_schedule.proofs.Operations.{no_steps, not_idle_busy}
use Rattle.transfer_machine.specs.Machine.{met_of, met_at}
use Rattle.transfer_machine.specs.Stages.{is_rest}
use Rattle.transfer_machine.specs.declared.stage.NextStep.{NextStep}
use Rattle.transfer_machine.specs.declared.stage.NextStep.TheVariants.{Rest, Announce, Try, LoadFinalState, LoadReply}
use Rattle.transfer_machine.specs.declared.transfer.TransferView.{TransferView}
use Rattle.pool_machine.specs.declared.call.Way.TheVariants.{Calls}
use Rattle.pool_machine.specs.Steps as call_steps
use Rattle.pool_machine.specs.Steps.{is_paced}
use Rattle.pool_machine.specs.Pools.{pool_met_at}
use Rattle.pool_machine.specs.declared.call.Call.{Call}
use Rattle.pool_machine.specs.declared.call.CallStage.{CallStage}
use Rattle.pool_machine.specs.declared.call.CallStage.TheVariants.{Moving, Own}
use Rattle.pool_machine.specs.declared.view.PoolView.{PoolView}
use Rattle.pool_machine.specs.declared.view.ProcessView.{ProcessView}
use Rattle.transfer_invariant.specs.Progress.{is_moving, has_only_begun, is_reply}
use Rattle.pool_invariant.proofs.Moved.{step_stays}
use Rattle.interleaving_core.specs.Invariant.{BlockIsHeld}
use Rattle.interleaving_core.specs.Moves.{may_go, calling_view}
use Rattle.interleaving_core.specs.Runs.{entries_of}
use Rattle.interleaving_core.specs.Steps.{is_at_step, next_answer, next_met}
use Rattle.pool_table.specs.declared.about.About.TheVariants.{InCall}
use Rattle.pool_table.specs.Minds.{KnownWord, entries_in, held_in}
use Rattle.pool_table.specs.Turns.{words_known_after}
use Rattle.pool_table.specs.Views.{SeatView}
use Rattle.pool_table.specs.Steps.{SeenAfter, Stepped}
use Rattle.pool_table.proofs.Ready.{call_can_step}
use Rattle.block_pool.specs.declared.process.Process.{Process}
use Rattle.block_pool.specs.Running.{calling, counted, moving, running, owning, beginning, stage_after}
use Rattle.block_pool.specs.Running.{CanGo, IsMoving, IsRunning, IsOwning}
use Rattle.block_pool.specs.Moves.{counted_unless, PlanStepped, MovedOne, MovedOn, AgesWithin, PlanRuns, rests, runs_on, ends}
use Rattle.block_pool.proofs.Going.{can_move, becomes}

-- at the beginning and in the middle
pub moving_at : (most n : ℕ) → n < most → stage_after most n ≡ Moving
moving_at most n lt = grind (arith, nat_tests)

own_at : (n : ℕ) → stage_after n n ≡ Own
own_at n = grind (arith, nat_tests)

-- no steps leave the pool as it was
pub none_counted : (pool : PoolView) → counted 0 pool ≡ pool
none_counted pool = ap (λ (plan : Numbers). record pool { plan = plan }) (no_steps pool.plan)

-- a call begins at a step of the transfer, where one is pending
pub begins_moving : (sizes : Sizes) (call : Call) (x : Process) → x.pool.plan.pending ≢ Idle
    → CanGo sizes call (beginning call x) x.seat.view → IsMoving sizes call 0 x
begins_moving sizes call x busy go =
    let stage : (if is_idle x.pool.plan.pending then Own else Moving) ≡ Moving =
    ap (λ idle. if idle then Own else Moving) (not_idle_busy x.pool.plan.pending busy) in
    let same : beginning call x ≡ moving call 0 x =
    ap (λ z. record { transfer = x.transfer; pool = x.pool; calls = calling z call 0 }) stage
    ∙ ap (λ z. record { transfer = x.transfer; pool = z; calls = calling Moving call 0 }) (sym (none_counted x.pool)) in
    subst (λ w. CanGo sizes call w x.seat.view) same go

-- and else at its own step
pub begins_owning : (sizes : Sizes) (call : Call) (x : Process) → x.pool.plan.pending ≡ Idle
    → CanGo sizes call (beginning call x) x.seat.view → IsOwning sizes call 0 x
begins_owning sizes call x idle go =
    let stage : (if is_idle x.pool.plan.pending then Own else Moving) ≡ Own = ap (λ p. if is_idle p then Own else Moving) idle in
    subst (λ w. CanGo sizes call w x.seat.view)
    (ap (λ z. record { transfer = x.transfer; pool = x.pool; calls = calling z call 0 }) stage) go

-- before the quantum is spent a running call is at a step of the transfer
pub runs_moving : (sizes : Sizes) (most n : ℕ) (call : Call) (x : Process) → n < most → IsRunning sizes most call n x
    → IsMoving sizes call n x
runs_moving sizes most n call x lt go =
    subst (λ w. CanGo sizes call w x.seat.view)
    (ap (λ z. record { transfer = x.transfer; pool = counted n x.pool; calls = calling z call n }) (moving_at most n lt)) go

-- a call at a step of the transfer is a running one
pub moving_runs : (sizes : Sizes) (most n : ℕ) (call : Call) (x : Process) → n < most → IsMoving sizes call n x
    → IsRunning sizes most call n x
moving_runs sizes most n call x lt go =
    subst (λ w. CanGo sizes call w x.seat.view)
    (ap (λ z. record { transfer = x.transfer; pool = counted n x.pool; calls = calling z call n }) (sym (moving_at most n lt))) go

-- after the most steps the call is at its own one
pub runs_owning : (sizes : Sizes) (most n : ℕ) (call : Call) (x : Process) (plan : Numbers) → n ≡ most
    → plan ≡ after_steps n x.pool.plan → IsRunning sizes most call n x
    → IsOwning sizes call n (record x { pool = record x.pool { plan = plan } })
runs_owning sizes most n call x plan e is go =
    let stage : stage_after most n ≡ Own = ap (λ k. stage_after k n) (sym e) ∙ own_at n in
    let same : running most call n x ≡ owning call n (record x { pool = record x.pool { plan = plan } }) =
    ap (λ z. record { transfer = x.transfer; pool = counted n x.pool; calls = calling z call n }) stage
    ∙ ap (λ (z : Numbers). record { transfer = x.transfer; pool = record x.pool { plan = z }; calls = calling Own call n }) (sym is) in
    subst (λ w. CanGo sizes call w x.seat.view) same go

-- a process that is in its call may go on with it
inside_may : (sizes : Sizes) (call : Call) (v : ProcessView) → is_at_step v.calls.stage ≡ true → may_go sizes true call v ≡ true
inside_may sizes call v e = rw e refl

inside_view : (call : Call) (v : ProcessView) → is_at_step v.calls.stage ≡ true → calling_view call v ≡ v
inside_view call v e = rw e refl

-- a step that makes no entry leaves the entries
no_entries : (sizes : Sizes) (call : Call) (u : ProcessView) (word : ℕ) (v x : SeatView) → CanGo sizes call u v
    → Stepped (InCall call) v word x → entries_of (next_answer u word) ≡ [] → entries_in x.mind ≡ entries_in v.mind
no_entries sizes call u word v x go s none =
    let before = entries_in v.mind in
    s.entries ∙ (ap (λ z. before ++ entries_of (next_answer z word)) go.view ∙ (ap (λ l. before ++ l) none ∙ append-nil before))

-- and so does one that leaves its process in its call, which goes on
pub goes_on : (sizes : Sizes) (call : Call) (u w : ProcessView) (word : ℕ) (v x : SeatView) → CanGo sizes call u v
    → Stepped (InCall call) v word x → entries_of (next_answer u word) ≡ [] → next_met sizes u word ≡ w → is_at_step w.calls.stage ≡ true
    → CanGo sizes call w x
goes_on sizes call u w word v x go s none is inside =
    let view : x.mind.view ≡ w = becomes sizes call u v x word go s ∙ is in
    let stage : is_at_step x.mind.view.calls.stage ≡ true = ap (λ z. is_at_step z.calls.stage) view ∙ inside in
    let held : BlockIsHeld (held_in x.mind) call =
    subst (λ l. BlockIsHeld (grip l) call) (sym (no_entries sizes call u word v x go s none)) go.can.may.1 in
    record {
      can = call_can_step sizes call x (ap (λ (z : SeatView). z.of_process) s.stays ∙ go.can.of_process)
          (ap (λ (z : SeatView). z.sizes) s.stays ∙ go.can.shape) s.among (inside_may sizes call x.mind.view stage) held;
      view = inside_view call x.mind.view stage ∙ view;
    }

-- a transfer is at rest after its last step alone
pub rests_after : (sizes : Sizes) (t : TransferView) (word : ℕ) (s : NextStep) → s ≢ Rest
    → is_rest (met_at sizes t word s).next ≡ is_reply s
rests_after sizes t word Rest busy = absurd (busy refl)
rests_after sizes t word Announce busy = refl
rests_after sizes t word (Try second step) busy = moving_not_rest _ (step_stays sizes t word (Try second step) refl).moving
  where
    moving_not_rest : (s : NextStep) → is_moving s ≡ true → is_rest s ≡ false
    moving_not_rest s e = grind arith
rests_after sizes t word LoadFinalState busy = refl
rests_after sizes t word LoadReply busy = refl

-- the view after a step, which has ended the transfer or not
abbrev pub stage_moved : Bool → ℕ → ℕ → CallStage
stage_moved ended most n = if ended || (n == most) then Own else Moving

-- the view after one more step of a call's transfer, which ended it or not
abbrev pub view_moved : ℕ → Call → ℕ → Bool → TransferView → PoolView → ProcessView
view_moved most call n ended t pool = record { transfer = t; pool = pool; calls = calling (stage_moved ended most n) call n }

moved_view : (sizes : Sizes) (call : Call) (n : ℕ) (x y : Process) (ended : Bool) → is_paced (Some call) ≡ true → IsMoving sizes call n x
    → (m : MovedOne sizes call n x ended y) → next_met sizes (moving call n x) m.word
    ≡ view_moved sizes.quantum call (n + 1) ended y.transfer (counted_unless ended (n + 1) y.pool)
moved_view sizes call n x y ended paced go m =
    let t = met_of sizes x.transfer m.word in
    let pool = pool_met_at m.word (counted n x.pool) x.transfer.next in
    let busy = (can_move sizes call n x go).go.busy in
    let rests : is_rest t.next ≡ ended = rests_after sizes x.transfer m.word x.transfer.next busy ∙ sym m.pool.last in
    ap (λ p. record {
      transfer = t;
      pool = pool;
      calls = record {
        stage = call_steps.stage_after p true sizes.quantum n t.next;
        call = Some call;
        steps = call_steps.steps_after p n;
        chosen = true;
        way = Calls;
      };
    }) paced
    ∙ (ap (λ z. view_moved sizes.quantum call (n + 1) z t pool) rests
    ∙ (ap (λ z. view_moved sizes.quantum call (n + 1) ended z pool) (sym m.transfer)
    ∙ ap (view_moved sizes.quantum call (n + 1) ended y.transfer) (sym m.pool.pool)))

in_call_moved : (t : Bool) → is_at_step (if t then Own else Moving) ≡ true
in_call_moved true = refl
in_call_moved false = refl

-- a step that doesn't end the transfer leaves the call running, with one step more
pub moves_on : (sizes : Sizes) (most : ℕ) (call : Call) (n : ℕ) (x y : Process) (ended : Bool) → is_paced (Some call) ≡ true
    → most ≡ sizes.quantum → ended ≡ false → IsMoving sizes call n x → MovedOne sizes call n x ended y
    → IsRunning sizes most call (n + 1) y
moves_on sizes most call n x y ended paced same e go moved =
    let m = subst (λ z. MovedOne sizes call n x z y) e moved in
    subst (λ k. IsRunning sizes k call (n + 1) y) (sym same)
    (goes_on sizes call (moving call n x) (running sizes.quantum call (n + 1) y) m.word x.seat.view y.seat.view go m.stepped refl
    (moved_view sizes call n x y false paced go m) (in_call_moved (n + 1 == sizes.quantum)))

-- the step that ends the transfer leads to the own step
pub moves_end : (sizes : Sizes) (call : Call) (n : ℕ) (x y : Process) (ended : Bool) → is_paced (Some call) ≡ true → ended ≡ true
    → IsMoving sizes call n x → MovedOne sizes call n x ended y → IsOwning sizes call (n + 1) y
moves_end sizes call n x y ended paced e go moved =
    let m = subst (λ z. MovedOne sizes call n x z y) e moved in
    goes_on sizes call (moving call n x) (owning call (n + 1) y) m.word x.seat.view y.seat.view go m.stepped refl
    (moved_view sizes call n x y true paced go m) refl

-- what stays of the seat
pub nothing_moved : (v : SeatView) → MovedOn v 0 v
nothing_moved v =
    record { stays = refl; number = refl; seen = refl; known = refl; entries = refl; moves = omega arith }

-- one more step that enters nothing is one more move
pub moved_more : (sizes : Sizes) (call : Call) (u : ProcessView) (n : ℕ) (before v x : SeatView) (word : ℕ) → CanGo sizes call u v
    → Stepped (InCall call) v word x → entries_of (next_answer u word) ≡ [] → ((known : List KnownWord) → words_known_after u known ≡ known)
    → MovedOn before n v → MovedOn before (n + 1) x
moved_more sizes call u n before v x word go s none knows h =
    let seen : x.mind.seen ≡ v.mind.seen =
    subst (λ l. SeenAfter l v.mind.seen x.mind.seen) (ap (λ z. entries_of (next_answer z word)) go.view ∙ none) s.seen in
    record {
      stays = s.stays ∙ ap (λ (z : SeatView). record z { mind = x.mind }) h.stays;
      number = s.number ∙ h.number;
      seen = seen ∙ h.seen;
      known = s.known ∙ (ap (λ z. words_known_after z v.mind.known) go.view ∙ (knows v.mind.known ∙ h.known));
      entries = no_entries sizes call u word v x go s none ∙ h.entries;
      moves = let a = s.moves in let b = h.moves in omega (arith, a, b);
    }

-- its age
pub aged_at : (sizes : Sizes) (most : ℕ) (t : TransferView) (word : ℕ) (s : NextStep) → t.next ≡ s → s ≢ Rest → AgesWithin most t
    → AgesWithin most (met_at sizes t word s)
aged_at sizes most t word Rest e busy h = absurd (busy refl)
aged_at sizes most t word Announce e busy h =
    let young = h.announced e in record { within = omega (arith, young); announced = λ is. absurd (grind arith) }
aged_at sizes most t word (Try second step) e busy h =
    let s = step_stays sizes t word (Try second step) refl in
    let within = h.within in
    let age = s.age in
    record { within = omega (arith, within, age); announced = λ is. absurd (begun_not _ s.announced is) }
  where
    begun_not : (s : NextStep) → has_only_begun s ≡ false → s ≡ Announce → ⊥
    begun_not s e is = grind arith
aged_at sizes most t word LoadFinalState e busy h = record { within = h.within; announced = λ is. absurd (grind arith) }
aged_at sizes most t word LoadReply e busy h = record { within = h.within; announced = λ is. absurd (grind arith) }

-- a step of a transfer leaves the age within the bound that it had
pub aged_more : (sizes : Sizes) (call : Call) (n most : ℕ) (x y : Process) (ended : Bool) → IsMoving sizes call n x
    → MovedOne sizes call n x ended y → AgesWithin most x.transfer → AgesWithin most y.transfer
aged_more sizes call n most x y ended go m h =
    subst (AgesWithin most) (sym m.transfer)
    (aged_at sizes most x.transfer m.word x.transfer.next refl (can_move sizes call n x go).go.busy h)

-- the plan
pub plan_stays : (n : ℕ) (ended : Bool) (first old new : Numbers) → ended ≡ false → old ≡ first → PlanStepped ended n old new → new ≡ first
plan_stays n ended first old new e is stepped = subst (λ z. PlanStepped z n old new) e stepped ∙ is

-- the plan of a transfer whose last step was made within the quantum
pub plan_ends : (most n : ℕ) (ended : Bool) (first old new : Numbers) → ended ≡ true → first.pending ≢ Idle → 1 ≤ n → n ≤ most → old ≡ first
    → PlanStepped ended n old new → PlanRuns most first n new
plan_ends most n ended first old new e busy some few is stepped =
    let (found, becomes_so) = subst (λ z. PlanStepped z n old new) e stepped in
    subst (PlanRuns most first n) (sym (becomes_so ∙ ap (λ z. after_end found (after_steps n z)) is))
    (ends n found (not_idle_busy first.pending busy) some few)

-- the plan of a transfer that took the whole quantum
pub plan_goes_on : (most : ℕ) (first old new : Numbers) → first.pending ≢ Idle → old ≡ first → new ≡ after_steps most old
    → PlanRuns most first most new
plan_goes_on most first old new busy is counted =
    subst (PlanRuns most first most) (sym (counted ∙ ap (after_steps most) is)) (runs_on (not_idle_busy first.pending busy))

-- the plan where nothing is pending
pub plan_rests : (most : ℕ) (plan : Numbers) → plan.pending ≡ Idle → PlanRuns most plan 0 plan
plan_rests most plan idle = rests (ap is_idle idle)
