-- what a process keeps for its private pool, and what the steps of a transfer do to it
use Rattle.std.specs.Prelude.{◌≡◌, ◌≢◌, ℕ, ◌+◌, ◌-◌, ◌*◌, ◌<◌, ◌≤◌, true, false, None, [], ◌∷◌, ◌++◌, length, take, slice_index}
use Rattle.word_layout.specs.Sizes.{Sizes, transfer_bound}
use Rattle.word_layout.specs.Packing.{value_of, reply_of}
use Rattle.word_layout.specs.declared.announced.Wish.{Wish}
use Rattle.word_layout.specs.declared.announced.Wish.TheVariants.{Take, Give}
use Rattle.word_layout.specs.declared.reply.Reply.{Reply}
use Rattle.word_layout.specs.declared.reply.Reply.TheVariants.{Nothing, Took, Gave}
use Rattle.transfer_schedule.specs.Beginning as beginning
use Rattle.transfer_schedule.specs.Numbers as schedule
use Rattle.transfer_schedule.specs.declared.pending.Pending.{Pending}
use Rattle.transfer_schedule.specs.declared.pending.Pending.TheVariants.{Idle, Taking, Giving}
use Rattle.transfer_machine.specs.Machine.{met_of, begun}
use Rattle.transfer_machine.specs.Opening.{opening_transfer}
use Rattle.pool_machine.specs.declared.call.CallView.{CallView}
use Rattle.pool_machine.specs.declared.call.CallStage.TheVariants.{Between}
use Rattle.pool_machine.specs.declared.call.Way.TheVariants.{Fresh}
use Rattle.pool_machine.specs.declared.view.PoolView.{PoolView}
use Rattle.pool_machine.specs.declared.view.ProcessView.{ProcessView}
use Rattle.transfer_machine.specs.declared.stage.NextStep.{NextStep}
use Rattle.transfer_machine.specs.declared.stage.NextStep.TheVariants.{Rest, Announce, Try, LoadFinalState, LoadReply}

-- the pool of a process at the opening: a full current list, and one spare after it
abbrev pub opening_pool : Sizes → ℕ → PoolView
opening_pool sizes process = record {
  plan = schedule.opening sizes.length (transfer_bound sizes) sizes.quantum;
  head = 2 * process * sizes.length + 1;
  heads = (2 * process + 1) * sizes.length ∷ [];
  giving = 0;
}

-- the calls of a process at the opening: it has begun nothing
abbrev pub opening_calls : CallView
opening_calls = record { stage = Between; call = None; steps = 0; chosen = false; way = Fresh }

-- what a process knows at the opening
abbrev pub opening_view : Sizes → ℕ → ProcessView
opening_view sizes process = record { transfer = opening_transfer process; pool = opening_pool sizes process; calls = opening_calls }

-- what is pending for a wish
abbrev pub pending_of : Wish → Pending
pending_of Take = Taking
pending_of (Give head) = Giving

-- a transfer with this wish may begin: the plan has the spares for it, and what is given is the newest one
abbrev pub MayBegin : Wish → PoolView → Type 0
MayBegin Take pool = beginning.MayBegin Taking pool.plan.spares
MayBegin (Give head) pool =
    (1 ≤ length pool.heads) × beginning.MayBegin Giving pool.plan.spares × (slice_index pool.heads (length pool.heads - 1) ≡ head)

-- the spares and the begun give once this wish is begun: a given batch leaves the spares at once
abbrev pub wish_begun : Wish → PoolView → PoolView
wish_begun Take pool = pool
wish_begun (Give head) pool = record pool { heads = take (length pool.heads - 1) pool.heads; giving = head + 1 }

-- the pool once a transfer is begun
abbrev pub pool_begun : Wish → PoolView → PoolView
pool_begun wish pool = record (wish_begun wish pool) { plan = schedule.after_begin (pending_of wish) pool.plan }

-- the view once a transfer is begun
abbrev pub view_begun : Wish → ProcessView → ProcessView
view_begun wish v = record v { transfer = begun wish v.transfer; pool = pool_begun wish v.pool }

-- the pending transfer ends with this reply: the batch of a take becomes the newest spare
abbrev pub pool_ended : Reply → PoolView → PoolView
pool_ended Nothing pool = record pool { plan = schedule.after_end false pool.plan }
pool_ended (Took head) pool = record pool { plan = schedule.after_end true pool.plan; heads = pool.heads ++ head ∷ [] }
pool_ended Gave pool = record pool { plan = schedule.after_end true pool.plan }

-- one more step of the pending transfer is counted
abbrev pub step_counted : PoolView → PoolView
step_counted pool = record pool { plan = schedule.after_steps 1 pool.plan }

-- the pool after a step of the transfer met this word: the announcement settles a give, the reply ends the transfer
abbrev pub pool_met_at : ℕ → PoolView → NextStep → PoolView
pool_met_at word pool Rest = pool
pool_met_at word pool Announce = record (step_counted pool) { giving = 0 }
pool_met_at word pool (Try second step) = step_counted pool
pool_met_at word pool LoadFinalState = step_counted pool
pool_met_at word pool LoadReply = pool_ended (reply_of (value_of word)) (step_counted pool)

-- the view of a process after its transfer's next step met this word
abbrev pub view_met : Sizes → ProcessView → ℕ → ProcessView
view_met sizes v word = record v { transfer = met_of sizes v.transfer word; pool = pool_met_at word v.pool v.transfer.next }

-- a reply that the pending transfer may end with: a take has room for one more spare, a give is never answered with nothing
abbrev pub CanEnd : Reply → PoolView → Type 0
CanEnd Nothing pool = pool.plan.pending ≢ Giving
CanEnd (Took head) pool = length pool.heads < 3
CanEnd Gave pool = Unit {0}

-- the pool can count one more step of its pending transfer
pub record CanCount (pool : PoolView) : Type 0 where
  pub pending : pool.plan.pending ≢ Idle
  pub some : 1 ≤ pool.plan.quantum
  pub within : pool.plan.done + 1 ≤ pool.plan.bound

-- where the step is the last, the word that it meets is a reply that may end the transfer
abbrev pub CanMeetPool : ℕ → PoolView → NextStep → Type 0
CanMeetPool word pool next = next ≡ LoadReply → CanEnd (reply_of (value_of word)) pool
