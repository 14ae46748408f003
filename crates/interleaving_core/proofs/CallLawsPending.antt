-- a transfer that a call begins ends within `length` calls
use Rattle.std.proofs.Common.{◌≡◌, ◌≢◌, ℕ, ◌+◌, ◌*◌, ◌≤◌, ◌==◌, ap, subst, Bool, true, false}
use Rattle.std.proofs.Common.{Option, None, Some, length, refl, inl, inr, ◌⊎◌, arith}
use Rattle.std.specs.Prelude.{◌||◌, if◌then◌else◌}
use Rattle.std.proofs.lemmas.Bool.Decides.{nat_tests}
use Rattle.word_layout.specs.Sizes.{Sizes}
use Rattle.word_layout.specs.Packing.{value_of, reply_of}
use Rattle.word_layout.specs.declared.reply.Reply.{Reply}
use Rattle.word_layout.specs.declared.reply.Reply.TheVariants.{Nothing, Took, Gave}
use Rattle.word_layout.specs.declared.announced.Wish.{Wish}
use Rattle.word_layout.specs.declared.announced.Wish.TheVariants.{Take, Give}
use Rattle.transfer_schedule.specs.Numbers.{Numbers, is_idle, after_end}
use Rattle.transfer_schedule.specs.declared.pending.Pending.TheVariants.{Idle}
use Rattle.pool_machine.specs.Pools.{view_begun, pool_met_at, view_met, pool_ended}
use Rattle.pool_machine.specs.declared.call.Call.{Call}
use Rattle.pool_machine.specs.declared.call.Call.TheVariants.{Allocate, Free, Read, Write, Search}
use Rattle.pool_machine.specs.declared.call.CallStage.{CallStage}
use Rattle.pool_machine.specs.declared.call.CallStage.TheVariants.{Between, Choosing, Moving, Own}
use Rattle.pool_machine.specs.declared.call.CallView.{CallView}
use Rattle.pool_machine.specs.declared.view.PoolView.{PoolView}
use Rattle.pool_machine.specs.declared.view.ProcessView.{ProcessView}
use Rattle.transfer_machine.specs.declared.stage.NextStep.{NextStep}
use Rattle.transfer_machine.specs.declared.stage.NextStep.TheVariants.{Rest, Announce, LoadFinalState, LoadReply, Try}
use Rattle.transfer_machine.specs.Stages.{is_rest}
use Rattle.pool_machine.specs.Beginning.{before_call, begun_if_due, due, entered, search_chosen, search_begun_by, call_begun}
use Rattle.pool_machine.specs.OwnSteps.{pool_own_met, own_answer_for, own_kind_for, allocate_answer, next_block}
use Rattle.pool_machine.specs.Steps.{is_paced, stage_after, steps_after, call_met_at, call_answer_at, happened}
use Rattle.call_invariant.specs.Phases.{changes_pool}
use Rattle.interleaving_core.specs.Runs.{entries_of}
use Rattle.interleaving_core.proofs.OwnPlans.{own_same}
use Rattle.interleaving_core.proofs.Withheld.{idle_is}

-- how many steps of its transfer the present call has surely made: those that it counts, and at its own step a quantum
abbrev pub made_at : Bool → Bool → ℕ → ℕ → CallStage → ℕ
made_at paced changes quantum made Between = 0
made_at paced changes quantum made Choosing = 0
made_at paced changes quantum made Moving = if paced then made else 0
made_at paced changes quantum made Own = if changes then quantum else 0

-- how many steps of a transfer the present call has made, at each stage
abbrev pub made_now_at : ℕ → CallView → CallStage → ℕ
made_now_at quantum calls stage = made_at (is_paced calls.call) (changes_pool calls.call) quantum calls.steps stage

-- a transfer made at least a quantum of steps in each of so many calls, and those of the present one
abbrev pub Aged : ℕ → ℕ → ProcessView → Type 0
Aged quantum n v = quantum * n + made_now_at quantum v.calls v.calls.stage ≤ v.pool.plan.done

-- a step of the transfer that isn't its last is counted
ended_idle : (found : Bool) (plan : Numbers) → (after_end found plan).pending ≡ Idle
ended_idle found plan = grind arith

pool_ended_idle : (reply : Reply) (pool : PoolView) → (pool_ended reply pool).plan.pending ≡ Idle
pool_ended_idle Nothing pool = ended_idle false pool.plan
pool_ended_idle (Took head) pool = ended_idle true pool.plan
pool_ended_idle Gave pool = ended_idle true pool.plan

step_counts : (word : ℕ) (pool : PoolView) (s : NextStep) → s ≢ Rest → (pool_met_at word pool s).plan.pending ≢ Idle
    → (pool_met_at word pool s).plan.done ≡ pool.plan.done + 1
step_counts word pool Rest busy pends = absurd (busy refl)
step_counts word pool Announce busy pends = refl
step_counts word pool (Try second step) busy pends = refl
step_counts word pool LoadFinalState busy pends = refl
step_counts word pool LoadReply busy pends = absurd (pends (pool_ended_idle (reply_of (value_of word)) _))

at_moving : (quantum n : ℕ) (v : ProcessView) → v.calls.stage ≡ Moving → Aged quantum n v
    → quantum * n + (if is_paced v.calls.call then v.calls.steps else 0) ≤ v.pool.plan.done
at_moving quantum n v stage aged =
    subst (λ (stage : CallStage). quantum * n + made_now_at quantum v.calls stage ≤ v.pool.plan.done) stage aged

moving_made : (changes : Bool) (quantum n done after made : ℕ) (t : Bool) → after ≡ done + 1 → quantum * n + made ≤ done
    → changes ≡ true → (made + 1 == quantum) ≡ t
    → quantum * (n + 0) + made_at true changes quantum (made + 1) (if t then Own else Moving) ≤ after
moving_made changes quantum n done after made true counted aged e whole =
    rw e (all quantum n done after made counted aged whole)
  where
    all : (quantum n done after made : ℕ) → after ≡ done + 1 → quantum * n + made ≤ done → (made + 1 == quantum) ≡ true
        → quantum * (n + 0) + quantum ≤ after
    all quantum n done after made counted aged e =
        let same : made + 1 ≡ quantum = grind (arith, nat_tests) in omega (arith, counted, aged, same)
moving_made changes quantum n done after made false counted aged e whole = omega (arith, counted, aged)

off_either : (a b : Bool) → a ≡ false → (a || b) ≡ b
off_either true b e = grind arith
off_either false b e = refl

stage_ages : (paced chosen changes : Bool) (quantum n done after made : ℕ) (next : NextStep) → after ≡ done + 1
    → quantum * n + (if paced then made else 0) ≤ done → changes ≡ true → is_rest next ≡ false
    → quantum * (n + 0) + made_at paced changes quantum (steps_after paced made) (stage_after paced chosen quantum made next) ≤ after
stage_ages true chosen changes quantum n done after made next counted aged e goes =
    rw (off_either (is_rest next) (made + 1 == quantum) goes)
    (moving_made changes quantum n done after made (made + 1 == quantum) counted aged e refl)
stage_ages false chosen changes quantum n done after made next counted aged e goes = rw goes (omega (arith, counted, aged))

moving_ages : (sizes : Sizes) (v : ProcessView) (word n : ℕ) → v.calls.stage ≡ Moving → Aged sizes.quantum n v
    → changes_pool v.calls.call ≡ true → v.transfer.next ≢ Rest
    → is_rest (view_met sizes v word).transfer.next ≡ false → (pool_met_at word v.pool v.transfer.next).plan.pending ≢ Idle
    → Aged sizes.quantum (n + 0) (call_met_at sizes v word Moving)
moving_ages sizes v word n stage aged changes busy goes pends =
    stage_ages (is_paced v.calls.call) v.calls.chosen (changes_pool v.calls.call) sizes.quantum n v.pool.plan.done
    (pool_met_at word v.pool v.transfer.next).plan.done v.calls.steps (view_met sizes v word).transfer.next
    (step_counts word v.pool v.transfer.next busy pends) (at_moving sizes.quantum n v stage aged) changes goes

-- an own step that makes an entry ends a call
one_entry : (number : ℕ) (pool : PoolView) (block : Option ℕ)
    → length (entries_of (happened (own_kind_for pool (Some Allocate)) (allocate_answer number block))) ≡ 1
one_entry number pool None = refl
one_entry number pool (Some block) = refl

next_call : (quantum n done after entries : ℕ) → after ≡ done → quantum * n + quantum ≤ done → entries ≡ 1
    → quantum * (n + entries) + 0 ≤ after
next_call quantum n done after entries same aged one = rw one (omega (arith, same, aged))

same_call : (quantum n done : ℕ) → quantum * n + 0 ≤ done → quantum * (n + 0) + 0 ≤ done
same_call quantum n done aged = omega (arith, aged)

own_ages : (quantum : ℕ) (v : ProcessView) (word n : ℕ) (call : Option Call)
    → quantum * n + (if changes_pool call then quantum else 0) ≤ v.pool.plan.done
    → quantum * (n + length
    (entries_of (happened (own_kind_for v.pool call) (own_answer_for v.transfer.number v.pool word call)))) + 0
    ≤ (pool_own_met word v.pool call).plan.done
own_ages quantum v word n None aged = same_call quantum n v.pool.plan.done aged
own_ages quantum v word n (Some Allocate) aged =
    next_call quantum n v.pool.plan.done _ _ (own_same word v.pool (Some Allocate)).done aged
    (one_entry v.transfer.number v.pool (next_block v.pool))
own_ages quantum v word n (Some (Free block)) aged =
    next_call quantum n v.pool.plan.done _ 1 (own_same word v.pool (Some (Free block))).done aged refl
own_ages quantum v word n (Some (Read block index)) aged = same_call quantum n v.pool.plan.done aged
own_ages quantum v word n (Some (Write block index value)) aged = same_call quantum n v.pool.plan.done aged
own_ages quantum v word n (Some Search) aged =
    next_call quantum n v.pool.plan.done _ _ (own_same word v.pool (Some Search)).done aged
    (one_entry v.transfer.number v.pool (next_block v.pool))

at_own : (quantum n : ℕ) (v : ProcessView) → v.calls.stage ≡ Own → Aged quantum n v
    → quantum * n + (if changes_pool v.calls.call then quantum else 0) ≤ v.pool.plan.done
at_own quantum n v stage aged =
    subst (λ (stage : CallStage). quantum * n + made_now_at quantum v.calls stage ≤ v.pool.plan.done) stage aged

-- so a step of a call keeps the age of its transfer
pub step_ages : (sizes : Sizes) (v : ProcessView) (word n : ℕ) (stage : CallStage) → v.calls.stage ≡ stage → Aged sizes.quantum n v
    → (stage ≡ Moving → changes_pool v.calls.call ≡ true) → (stage ≡ Moving → v.transfer.next ≢ Rest)
    → is_rest (call_met_at sizes v word stage).transfer.next ≡ false → (call_met_at sizes v word stage).pool.plan.pending ≢ Idle
    → Aged sizes.quantum (n + length (entries_of (call_answer_at v word stage))) (call_met_at sizes v word stage)
step_ages sizes v word n Between e aged changes busy goes pends = plus_none sizes.quantum n v.pool.plan.done _ aged
  where
    plus_none : (quantum n done made : ℕ) → quantum * n + made ≤ done → quantum * (n + 0) + made ≤ done
    plus_none quantum n done made aged = omega (arith, aged)
step_ages sizes v word n Choosing e aged changes busy goes pends = plus_no sizes.quantum n v.pool.plan.done _ aged
  where
    plus_no : (quantum n done made : ℕ) → quantum * n + made ≤ done → quantum * (n + 0) + made ≤ done
    plus_no quantum n done made aged = omega (arith, aged)
step_ages sizes v word n Moving e aged changes busy goes pends = moving_ages sizes v word n e aged (changes refl) (busy refl) goes pends
step_ages sizes v word n Own e aged changes busy goes pends = own_ages sizes.quantum v word n v.calls.call (at_own sizes.quantum n v e aged)

-- a call that begins while a transfer is pending
busy_due : (pool : PoolView) → is_idle pool.plan.pending ≡ false → due pool ≡ None
busy_due pool busy = rw busy refl

busy_before : (v : ProcessView) → is_idle v.pool.plan.pending ≡ false → before_call v ≡ v
busy_before v busy = rw (busy_due v.pool busy) refl

at_between : (quantum n : ℕ) (v : ProcessView) → v.calls.stage ≡ Between → Aged quantum n v → quantum * n + 0 ≤ v.pool.plan.done
at_between quantum n v stage aged =
    subst (λ (stage : CallStage). quantum * n + made_now_at quantum v.calls stage ≤ v.pool.plan.done) stage aged

-- as a call begins that meets a pending transfer, this has made a quantum of steps for each call since
pub begun_ages : (quantum : ℕ) (v : ProcessView) (n : ℕ) (call : Call) → v.calls.stage ≡ Between → is_idle v.pool.plan.pending ≡ false
    → Aged quantum n v → Aged quantum n (call_begun call v)
begun_ages quantum v n Allocate stage busy aged = rw (busy_before v busy) (rw busy (at_between quantum n v stage aged))
begun_ages quantum v n (Free block) stage busy aged = rw (busy_before v busy) (rw busy (at_between quantum n v stage aged))
begun_ages quantum v n (Read block index) stage busy aged = at_between quantum n v stage aged
begun_ages quantum v n (Write block index value) stage busy aged = at_between quantum n v stage aged
begun_ages quantum v n Search stage busy aged = searching (is_idle v.pool.plan.pending) busy
  where
    searching : (t : Bool) → t ≡ false → Aged quantum n (search_begun_by t v)
    searching true e = cc
    searching false e = at_between quantum n v stage aged

-- a transfer that a call begins has made no step
wish_done : (wish : Wish) (v : ProcessView) → (view_begun wish v).pool.plan.done ≡ 0
wish_done Take v = refl
wish_done (Give head) v = refl

due_done : (wish : Option Wish) (v : ProcessView) → v.pool.plan.done ≡ 0 → (begun_if_due wish v).pool.plan.done ≡ 0
due_done None v none = none
due_done (Some wish) v none = wish_done wish v

none_made : (quantum done : ℕ) (paced : Bool) → done ≡ 0 → quantum * 0 + (if paced then 0 else 0) ≤ done
none_made quantum done true none = omega (arith, none)
none_made quantum done false none = omega (arith, none)

changed_ages : (quantum : ℕ) (v : ProcessView) (t : Bool) (call : Call) → is_idle v.pool.plan.pending ≡ t → v.pool.plan.done ≡ 0
    → Aged quantum 0 (entered call (if t then Own else Moving) v) ⊎ (v.pool.plan.pending ≡ Idle) × ((if t then Own else Moving) ≡ Own)
changed_ages quantum v true call e none = inr (idle_is v.pool.plan.pending e, refl)
changed_ages quantum v false call e none = inl (none_made quantum v.pool.plan.done (is_paced (Some call)) none)

-- a search that has chosen begins a transfer that has made none, or comes to its own step
pub chosen_ages : (quantum : ℕ) (v : ProcessView) → v.pool.plan.done ≡ 0
    → Aged quantum 0 (search_chosen v) ⊎ ((search_chosen v).pool.plan.pending ≡ Idle) × ((search_chosen v).calls.stage ≡ Own)
chosen_ages quantum v none =
    changed_ages quantum (before_call v) (is_idle (before_call v).pool.plan.pending) Search refl (due_done (due v.pool) v none)

-- a call that begins none comes to its own step with nothing pending
pub first_ages : (quantum : ℕ) (v : ProcessView) (call : Call) → v.pool.plan.pending ≡ Idle → v.pool.plan.done ≡ 0
    → Aged quantum 0 (call_begun call v) ⊎ ((call_begun call v).pool.plan.pending ≡ Idle) × ((call_begun call v).calls.stage ≡ Own)
first_ages quantum v Allocate idle none =
    changed_ages quantum (before_call v) (is_idle (before_call v).pool.plan.pending) Allocate refl (due_done (due v.pool) v none)
first_ages quantum v (Free block) idle none =
    changed_ages quantum (before_call v) (is_idle (before_call v).pool.plan.pending) (Free block) refl (due_done (due v.pool) v none)
first_ages quantum v (Read block index) idle none = inr (idle, refl)
first_ages quantum v (Write block index value) idle none = inr (idle, refl)
first_ages quantum v Search idle none = searching (is_idle v.pool.plan.pending) (ap is_idle idle)
  where
    searching : (t : Bool) → t ≡ true
        → Aged quantum 0 (search_begun_by t v) ⊎ ((search_begun_by t v).pool.plan.pending ≡ Idle)
        × ((search_begun_by t v).calls.stage ≡ Own)
    searching true e = chosen_ages quantum v none
    searching false e = cc

-- and its own step leaves it so
pub own_step_pending : (sizes : Sizes) (v : ProcessView) (word : ℕ) (stage : CallStage) → stage ≡ Own
    → (call_met_at sizes v word stage).pool.plan.pending ≡ v.pool.plan.pending
own_step_pending sizes v word stage e = rw e (own_same word v.pool v.calls.call).pending
