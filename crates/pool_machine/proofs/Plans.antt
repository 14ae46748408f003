-- what calls make of the plan
use Rattle.std.proofs.Common.{◌≡◌, ℕ, Bool, true, false, Option, None, Some, refl, arith}
use Rattle.std.proofs.lemmas.Bool.Decides.{nat_tests}
use Rattle.word_layout.specs.Sizes.{Sizes}
use Rattle.word_layout.specs.Packing.{value_of, reply_of}
use Rattle.word_layout.specs.declared.reply.Reply.{Reply}
use Rattle.word_layout.specs.declared.reply.Reply.TheVariants as reply
use Rattle.word_layout.specs.declared.announced.Wish.{Wish}
use Rattle.word_layout.specs.declared.announced.Wish.TheVariants.{Take, Give}
use Rattle.transfer_schedule.specs.Numbers as schedule
use Rattle.transfer_schedule.specs.declared.pending.Pending.{Pending}
use Rattle.transfer_schedule.specs.declared.pending.Pending.TheVariants.{Idle, Taking, Giving}
use Rattle.transfer_schedule.specs.declared.own_step.Source.{Source}
use Rattle.transfer_schedule.specs.declared.own_step.Target.{Target}
use Rattle.transfer_schedule.specs.declared.own_step.Source.TheVariants as source
use Rattle.transfer_schedule.specs.declared.own_step.Target.TheVariants as target
use Rattle.pool_machine.specs.Pools.{pool_met_at, pool_ended, step_counted, opening_view}
use Rattle.pool_machine.specs.declared.call.Call.{Call}
use Rattle.pool_machine.specs.declared.call.Call.TheVariants.{Allocate, Free, Read, Write, Search}
use Rattle.pool_machine.specs.declared.call.CallStage.{CallStage}
use Rattle.pool_machine.specs.declared.call.CallStage.TheVariants.{Between, Choosing, Moving, Own}
use Rattle.transfer_machine.specs.declared.stage.NextStep.{NextStep}
use Rattle.transfer_machine.specs.declared.stage.NextStep.TheVariants.{Rest, Announce, Try, LoadFinalState, LoadReply}
use Rattle.pool_machine.specs.declared.view.PoolView.{PoolView}
use Rattle.pool_machine.specs.declared.view.ProcessView.{ProcessView}
use Rattle.pool_machine.specs.Beginning.{wish_for, due, begun_if_due, before_call, search_begun_by, call_begun}
use Rattle.pool_machine.specs.OwnSteps.{allocated, freed, pool_own_met}
use Rattle.pool_machine.specs.Steps.{call_met, call_met_at}
use Rattle.pool_machine.specs.Ready.{PlanFits, CanBegin}
use Rattle.pool_machine.specs.Laws.{plan_after, CanBeginWish}

-- the transfer that is due is the plan's choice
begun_as_due : (v : ProcessView) (p : Pending) → (begun_if_due (wish_for v.pool p) v).pool.plan ≡ schedule.after_begin p v.pool.plan
begun_as_due v Idle = refl
begun_as_due v Taking = refl
begun_as_due v Giving = refl

-- what begins with a call is what the plan chooses
pub choice_is_the_plans : (v : ProcessView) → (before_call v).pool.plan ≡ schedule.after_choice v.pool.plan
choice_is_the_plans v = begun_as_due v (schedule.due v.pool.plan)

-- a transfer that is due can begin
pub due_begins : (v : ProcessView) (wish : Wish) → CanBegin v → due v.pool ≡ Some wish → CanBeginWish v wish
due_begins v Take h e = grind (arith, nat_tests)
due_begins v (Give head) h e = grind (arith, nat_tests)

-- the own steps are the schedule's
pub allocated_plan : (word : ℕ) (pool : PoolView) (s : Source) → (allocated word pool s).plan ≡ schedule.after_took_one pool.plan
allocated_plan word pool source.Current = refl
allocated_plan word pool source.Spare = refl
allocated_plan word pool source.Nothing = refl

-- a free is one of the plan, wherever the block goes
pub freed_plan : (block : ℕ) (pool : PoolView) (t : Target) → (freed block pool t).plan ≡ schedule.after_gave_one pool.plan
freed_plan block pool target.Current = refl
freed_plan block pool target.Fresh = refl

-- an own step is one of the plan
pub own_plan : (word : ℕ) (pool : PoolView) (call : Option Call) → (pool_own_met word pool call).plan ≡ plan_after call pool.plan
own_plan word pool None = refl
own_plan word pool (Some Allocate) = allocated_plan word pool (schedule.source_of pool.plan)
own_plan word pool (Some (Free block)) = freed_plan block pool (schedule.target_of pool.plan)
own_plan word pool (Some (Read block index)) = refl
own_plan word pool (Some (Write block index value)) = refl
own_plan word pool (Some Search) = allocated_plan word pool (schedule.source_of pool.plan)

-- each step of the schedule keeps the sizes
choice_fits : (sizes : Sizes) (x : schedule.Numbers) → PlanFits sizes x → PlanFits sizes (schedule.after_choice x)
choice_fits sizes x h = grind (arith, nat_tests)

end_fits : (sizes : Sizes) (found : Bool) (x : schedule.Numbers) → PlanFits sizes x → PlanFits sizes (schedule.after_end found x)
end_fits sizes found x h = grind (arith, nat_tests)

took_fits : (sizes : Sizes) (x : schedule.Numbers) → PlanFits sizes x → PlanFits sizes (schedule.after_took_one x)
took_fits sizes x h = grind (arith, nat_tests)

gave_fits : (sizes : Sizes) (x : schedule.Numbers) → PlanFits sizes x → PlanFits sizes (schedule.after_gave_one x)
gave_fits sizes x h = grind (arith, nat_tests)

after_fits : (sizes : Sizes) (call : Option Call) (x : schedule.Numbers) → PlanFits sizes x → PlanFits sizes (plan_after call x)
after_fits sizes None x h = h
after_fits sizes (Some Allocate) x h = took_fits sizes x h
after_fits sizes (Some (Free block)) x h = gave_fits sizes x h
after_fits sizes (Some (Read block index)) x h = h
after_fits sizes (Some (Write block index value)) x h = h
after_fits sizes (Some Search) x h = took_fits sizes x h

-- beginnings and steps keep the sizes
begun_fits_at : (sizes : Sizes) (v : ProcessView) → PlanFits sizes v.pool.plan → PlanFits sizes (before_call v).pool.plan
begun_fits_at sizes v h = rw (choice_is_the_plans v) (choice_fits sizes v.pool.plan h)

-- a call that begins leaves the sizes of the plan
pub begun_fits : (sizes : Sizes) (call : Call) (v : ProcessView) → PlanFits sizes v.pool.plan → PlanFits sizes (call_begun call v).pool.plan
begun_fits sizes Allocate v h = begun_fits_at sizes v h
begun_fits sizes (Free block) v h = begun_fits_at sizes v h
begun_fits sizes (Read block index) v h = h
begun_fits sizes (Write block index value) v h = h
begun_fits sizes Search v h = search_fits sizes (schedule.is_idle v.pool.plan.pending) v h
  where
    search_fits : (sizes : Sizes) (t : Bool) (v : ProcessView) → PlanFits sizes v.pool.plan → PlanFits sizes (search_begun_by t v).pool.plan
    search_fits sizes true v h = begun_fits_at sizes v h
    search_fits sizes false v h = h

ended_fits : (sizes : Sizes) (r : Reply) (pool : PoolView) → PlanFits sizes pool.plan → PlanFits sizes (pool_ended r pool).plan
ended_fits sizes reply.Nothing pool h = end_fits sizes false pool.plan h
ended_fits sizes (reply.Took head) pool h = end_fits sizes true pool.plan h
ended_fits sizes reply.Gave pool h = end_fits sizes true pool.plan h

counted_fits : (sizes : Sizes) (x : schedule.Numbers) → PlanFits sizes x → PlanFits sizes (schedule.after_steps 1 x)
counted_fits sizes x h = record { length = h.length; bound = h.bound; quantum = h.quantum }

moved_fits : (sizes : Sizes) (word : ℕ) (pool : PoolView) (s : NextStep) → PlanFits sizes pool.plan
    → PlanFits sizes (pool_met_at word pool s).plan
moved_fits sizes word pool Rest h = h
moved_fits sizes word pool Announce h = counted_fits sizes pool.plan h
moved_fits sizes word pool (Try second step) h = counted_fits sizes pool.plan h
moved_fits sizes word pool LoadFinalState h = counted_fits sizes pool.plan h
moved_fits sizes word pool LoadReply h = ended_fits sizes (reply_of (value_of word)) (step_counted pool) (counted_fits sizes pool.plan h)

met_fits_at : (sizes : Sizes) (v : ProcessView) (word : ℕ) (s : CallStage) → PlanFits sizes v.pool.plan
    → PlanFits sizes (call_met_at sizes v word s).pool.plan
met_fits_at sizes v word Between h = h
met_fits_at sizes v word Choosing h = h
met_fits_at sizes v word Moving h = moved_fits sizes word v.pool v.transfer.next h
met_fits_at sizes v word Own h = rw (own_plan word v.pool v.calls.call) (after_fits sizes v.calls.call v.pool.plan h)

-- each step of a call leaves them
pub met_fits : (sizes : Sizes) (v : ProcessView) (word : ℕ) → PlanFits sizes v.pool.plan → PlanFits sizes (call_met sizes v word).pool.plan
met_fits sizes v word h = met_fits_at sizes v word v.calls.stage h

-- the plan of the opening has the shape's sizes
pub opening_fits : (sizes : Sizes) (process : ℕ) → PlanFits sizes (opening_view sizes process).pool.plan
opening_fits sizes process = record { length = refl; bound = refl; quantum = refl }
