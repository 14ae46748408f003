-- what every process keeps, whichever way it uses its pool, and what follows
use Rattle.std.proofs.Common.{List, ◌+◌, ◌*◌, ◌<◌, ◌≡◌, ◌≢◌, ℕ, ◌≤◌, length, refl, sym, ◌∙◌, ap, arith}
use Rattle.std.specs.Prelude.{Some}
use Rattle.word_layout.specs.Sizes.{Sizes, most_blocks}
use Rattle.word_layout.specs.Packing.{value_of, reply_of}
use Rattle.word_layout.specs.declared.announced.Wish.{Wish}
use Rattle.word_layout.specs.declared.announced.Wish.TheVariants.{Take, Give}
use Rattle.word_layout.specs.declared.reply.Reply.{Reply}
use Rattle.word_layout.specs.declared.reply.Reply.TheVariants.{Nothing, Took, Gave}
use Rattle.pool_model.specs.declared.entry.Entry.{Entry}
use Rattle.pool_model.specs.Limits.{Limits}
use Rattle.pool_model.specs.History.{held, allowance, HasFewUnheld}
use Rattle.transfer_schedule.specs.Numbers.{withheld}
use Rattle.transfer_schedule.specs.Table.{InTable}
use Rattle.transfer_schedule.specs.declared.pending.Pending.TheVariants.{Idle}
use Rattle.transfer_machine.specs.Machine.{CanAct, CanMeet}
use Rattle.pool_machine.specs.Pools.{pending_of, MayBegin, CanCount, CanMeetPool, CanEnd}
use Rattle.pool_machine.specs.declared.call.CallStage.TheVariants.{Moving}
use Rattle.pool_machine.specs.declared.call.Way.{Way}
use Rattle.pool_machine.specs.declared.call.Way.TheVariants.{Fresh, Alone, Calls}
use Rattle.transfer_machine.specs.declared.stage.NextStep.TheVariants.{Rest, LoadReply}
use Rattle.pool_machine.specs.declared.view.PoolView.{PoolView}
use Rattle.pool_machine.specs.declared.view.ProcessView.{ProcessView}
use Rattle.pool_machine.specs.Beginning.{due, newest}
use Rattle.pool_machine.specs.Ready.{CanBegin, CanMove, CanMeetMoving}
use Rattle.pool_invariant.specs.Kept.{Answers, GivenToPool}
use Rattle.pool_invariant.specs.StepCount.{OverlayIsFew}
use Rattle.pool_invariant.proofs.Ending.{moving_unless_rest, step_left}
use Rattle.history_invariant.specs.Ledger.{Ledger}
use Rattle.process_sums.specs.Sums.{total}
use Rattle.history_invariant.proofs.Unheld.{allowances_leave_few}
use Rattle.call_invariant.specs.InCalls.{Scheduled, IsFresh, InCalls}
use Rattle.call_invariant.specs.InTransfers.{InTransfers}
use Rattle.call_invariant.specs.Uses.{UsesPoolBy, PoolKeeps}
use Rattle.call_invariant.proofs.Standing.{some_quantum, idle_rests, in_table, withholds_five}
use Rattle.call_invariant.proofs.Begun.{due_may_begin, due_rests}
use Rattle.call_invariant.proofs.Alone.{kept_in_table, withholds_three}

-- whichever way a process uses its pool
pub keeps_pool : (sizes : Sizes) (i : ℕ) (v : ProcessView) (g : Ledger) (way : Way) → UsesPoolBy way sizes i v g → Scheduled sizes g.account
    → PoolKeeps sizes v
keeps_pool sizes i v g Fresh h s = record { runs = h.runs; heads = h.heads; table = in_table sizes i v g s h }
keeps_pool sizes i v g Alone h s = record { runs = h.pool.runs; heads = h.pool.alone.spares.heads; table = kept_in_table sizes i v h.pool }
keeps_pool sizes i v g Calls h s = record { runs = h.runs; heads = h.heads; table = in_table sizes i v g s h }

-- a process withholds at most five batches, however it uses its pool
pub withholds_few : (sizes : Sizes) (i : ℕ) (v : ProcessView) (g : Ledger) (way : Way) → UsesPoolBy way sizes i v g
    → Scheduled sizes g.account
    → withheld v.pool.plan ≤ 5 * sizes.length
withholds_few sizes i v g Fresh h s = withholds_five sizes i v g s h
withholds_few sizes i v g Alone h s = withholds_three sizes i v.pool h.pool.runs.kept.batch h.pool.alone.full
withholds_few sizes i v g Calls h s = withholds_five sizes i v g s h

-- the pool can count each step of the transfer, and end it with the own reply
pub steps_can_count : (sizes : Sizes) (v : ProcessView) → 1 ≤ sizes.quantum → PoolKeeps sizes v → OverlayIsFew sizes v.transfer
    → v.transfer.next ≢ Rest → CanCount v.pool
steps_can_count sizes v some h few busy =
    let moving = moving_unless_rest v.transfer.next busy in
    let left = step_left sizes v.transfer v.transfer.next h.runs.index few in
    let counted = h.runs.counted moving in
    record {
      pending = λ idle. wish_pends v.transfer.wish (sym (h.runs.kept.pending moving) ∙ idle);
      some = rw h.runs.kept.quantum some;
      within = omega (arith, h.runs.kept.bound);
    }
  where
    wish_pends : (wish : Wish) → pending_of wish ≡ Idle → ⊥
    wish_pends wish e = grind arith

reply_ends : (pool : PoolView) (wish : Wish) (reply : Reply) → pool.plan.pending ≡ pending_of wish → InTable pool.plan
    → length pool.heads ≡ pool.plan.spares → Answers wish reply → CanEnd reply pool
reply_ends pool Take Nothing pending table heads a = λ e. grind (arith, sym pending ∙ e)
reply_ends pool Take (Took head) pending table heads a = let two = table.take pending in omega arith
reply_ends pool Take Gave pending table heads a = absurd a
reply_ends pool (Give head) Nothing pending table heads a = absurd a
reply_ends pool (Give head) (Took batch) pending table heads a = absurd a
reply_ends pool (Give head) Gave pending table heads a = tt

-- a reply that answers the wish can end the transfer
pub replies_can_end : (sizes : Sizes) (v : ProcessView) (word : ℕ) → PoolKeeps sizes v
    → (v.transfer.next ≡ LoadReply → Answers v.transfer.wish (reply_of (value_of word)))
    → CanMeetPool word v.pool v.transfer.next
replies_can_end sizes v word h answers e =
    reply_ends v.pool v.transfer.wish (reply_of (value_of word)) (h.runs.kept.pending (rw e refl)) h.table h.heads (answers e)

-- so a call can make its next transfer step
pub moves_can_be_made : (sizes : Sizes) (i : ℕ) (v : ProcessView) (word : ℕ) (g : Ledger) → InCalls sizes i v g → Scheduled sizes g.account
    → v.calls.stage ≡ Moving
    → GivenToPool sizes v.transfer word → CanAct sizes v.transfer → CanMeet sizes v.transfer word
    → CanMove sizes v × CanMeetMoving sizes v word
moves_can_be_made sizes i v word g h s moving given act meet =
    let keeps = keeps_pool sizes i v g Calls h s in
    let busy = h.stage.pending moving in (
      record {
        go = record { busy = busy; act = act; count = steps_can_count sizes v (some_quantum sizes s.fit) keeps given.few busy };
        left = record { few = h.stage.few moving };
      },
      record { meet = meet; end = replies_can_end sizes v word keeps given.answers },
    )

-- the transfer that is due with a call may begin
pub due_begins : (sizes : Sizes) (v : ProcessView) (wish : Wish) → PoolKeeps sizes v → due v.pool ≡ Some wish
    → (v.transfer.next ≡ Rest) × MayBegin wish v.pool
due_begins sizes v wish h e = (due_rests sizes v wish h.runs.kept e, due_may_begin v.pool wish h.heads e)

-- a call can begin, where the head that it gives is a block
pub calls_can_begin : (sizes : Sizes) (v : ProcessView) → PoolKeeps sizes v → (v.pool.plan.spares ≡ 3 → newest v.pool < most_blocks)
    → CanBegin v
calls_can_begin sizes v h fits = record { rest = idle_rests sizes v h.runs.kept; heads = h.heads; fits = fits }

-- with nothing pending nothing is begun, however the pool is used
pub idle_pool_rests : (sizes : Sizes) (v : ProcessView) → PoolKeeps sizes v → v.pool.plan.pending ≡ Idle → v.transfer.next ≡ Rest
idle_pool_rests sizes v h idle = idle_rests sizes v h.runs.kept idle

-- which of the two ways it is
pub uses_calls : (sizes : Sizes) (i : ℕ) (v : ProcessView) (g : Ledger) (way : Way) → way ≢ Alone → InCalls sizes i v g
    → UsesPoolBy way sizes i v g
uses_calls sizes i v g Fresh ne h = h
uses_calls sizes i v g Alone ne h = absurd (ne refl)
uses_calls sizes i v g Calls ne h = h

-- what does not move alone is in calls
pub calls_used : (sizes : Sizes) (i : ℕ) (v : ProcessView) (g : Ledger) (way : Way) → way ≢ Alone → UsesPoolBy way sizes i v g
    → InCalls sizes i v g
calls_used sizes i v g Fresh ne h = h
calls_used sizes i v g Alone ne h = absurd (ne refl)
calls_used sizes i v g Calls ne h = h

-- what moves alone is in transfers
pub transfers_used : (sizes : Sizes) (i : ℕ) (v : ProcessView) (g : Ledger) (way : Way) → way ≡ Alone → UsesPoolBy way sizes i v g
    → InTransfers sizes i v g
transfers_used sizes i v g way e h = rw e at h

-- a process in transfers moves alone
pub uses_transfers : (sizes : Sizes) (i : ℕ) (v : ProcessView) (g : Ledger) (way : Way) → way ≡ Alone → InTransfers sizes i v g
    → UsesPoolBy way sizes i v g
uses_transfers sizes i v g way e h = rw e h

-- what a process sees of the others' entries, and what its take is known to have found, leave that
fresh_stays : (sizes : Sizes) (i : ℕ) (v : ProcessView) (old new : Ledger) → new.account ≡ old.account → new.entries ≡ old.entries
    → IsFresh sizes i v old → IsFresh sizes i v new
fresh_stays sizes i v old new account entries h =
    record { view = h.view; nothing = record { account = account ∙ h.nothing.account; none = entries ∙ h.nothing.none } }

-- a process stays in its calls while its account and its entries stay
pub calls_stay : (sizes : Sizes) (i : ℕ) (v : ProcessView) (old new : Ledger) → new.account ≡ old.account → new.entries ≡ old.entries
    → InCalls sizes i v old → InCalls sizes i v new
calls_stay sizes i v old new account entries h = record {
  way = h.way;
  plan = ap (λ a. a.plan) account ∙ h.plan;
  phase = ap (λ a. a.phase) account ∙ h.phase;
  runs = h.runs;
  heads = h.heads;
  announced = h.announced;
  stage = h.stage;
  choice = h.choice;
  fresh = λ e. fresh_stays sizes i v old new account entries (h.fresh e);
}

-- it uses its pool as before while these stay
pub uses_stay : (sizes : Sizes) (i : ℕ) (v : ProcessView) (old new : Ledger) (way : Way) → new.account ≡ old.account
    → new.entries ≡ old.entries → UsesPoolBy way sizes i v old
    → UsesPoolBy way sizes i v new
uses_stay sizes i v old new Fresh account entries h = calls_stay sizes i v old new account entries h
uses_stay sizes i v old new Alone account entries h = record {
  way = h.way;
  stage = h.stage;
  none = h.none;
  pool = h.pool;
  nothing = record { account = account ∙ h.nothing.account; none = entries ∙ h.nothing.none };
}
uses_stay sizes i v old new Calls account entries h = calls_stay sizes i v old new account entries h

-- where each block is held or withheld by a process, few are unheld
pub empty_stack_leaves_few : (limits : Limits) (history : List Entry) (views : ℕ → ProcessView)
    → ((i : ℕ) → i < limits.processes → withheld (views i).pool.plan ≤ allowance limits history i)
    → limits.blocks ≤ length (held history) + total limits.processes (λ i. withheld (views i).pool.plan)
    → HasFewUnheld limits history (length history)
empty_stack_leaves_few limits history views each all =
    allowances_leave_few limits history (λ i. withheld (views i).pool.plan) each all
