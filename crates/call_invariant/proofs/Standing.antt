-- what the schedule and the pool say of a process at every moment
use Rattle.std.proofs.Common.{◌≡◌, ℕ, ◌*◌, ◌<◌, ◌≤◌, true, sym, ◌∙◌, arith}
use Rattle.word_layout.specs.Sizes.{Sizes, IsShape, transfer_bound}
use Rattle.word_layout.proofs.Limits.{two_blocks_a_batch}
use Rattle.transfer_schedule.specs.Account.{Account}
use Rattle.transfer_schedule.specs.Numbers.{Numbers, AreSizes, withheld}
use Rattle.transfer_schedule.specs.Table.{InTable}
use Rattle.transfer_schedule.specs.declared.pending.Pending.TheVariants.{Idle}
use Rattle.transfer_schedule.proofs.Products.{quantum_some}
use Rattle.transfer_schedule.proofs.AtPhase.{Stands, stands_table, stands_withholds}
use Rattle.transfer_schedule.proofs.Reaching.{reached_stands, reached_sizes}
use Rattle.word_layout.specs.declared.announced.Wish.{Wish}
use Rattle.pool_machine.specs.Pools.{pending_of}
use Rattle.transfer_machine.specs.declared.stage.NextStep.{NextStep}
use Rattle.transfer_machine.specs.declared.stage.NextStep.TheVariants.{Rest}
use Rattle.pool_machine.specs.declared.call.CallView.{CallView}
use Rattle.pool_machine.specs.declared.view.ProcessView.{ProcessView}
use Rattle.transfer_invariant.specs.Progress.{is_moving}
use Rattle.pool_invariant.specs.Kept.{PoolKept}
use Rattle.pool_invariant.specs.Holds.{PoolRuns}
use Rattle.history_invariant.specs.Ledger.{Ledger}
use Rattle.call_invariant.specs.InCalls.{Scheduled, InCalls}

-- the sizes of a shape are those of a schedule
pub shape_fits : (sizes : Sizes) → IsShape sizes → AreSizes sizes.length (transfer_bound sizes) sizes.quantum
shape_fits sizes shape = record { long = two_blocks_a_batch sizes shape; some = omega arith; soon = shape.least_length.enough }

-- a quantum has at least one step
pub some_quantum : (sizes : Sizes) → AreSizes sizes.length (transfer_bound sizes) sizes.quantum → 0 < sizes.quantum
some_quantum sizes fit = quantum_some sizes.length (transfer_bound sizes) sizes.quantum fit.some fit.soon

-- where nothing is pending, the transfer rests
rests_unless_moving : (s : NextStep) → (is_moving s ≡ true → ⊥) → s ≡ Rest
rests_unless_moving s none = grind arith

-- with nothing pending nothing is begun
pub idle_rests : (sizes : Sizes) (v : ProcessView) → PoolKept sizes v → v.pool.plan.pending ≡ Idle → v.transfer.next ≡ Rest
idle_rests sizes v h idle = rests_unless_moving v.transfer.next (λ moving. wish_pends v.transfer.wish (sym (h.pending moving) ∙ idle))
  where
    wish_pends : (wish : Wish) → pending_of wish ≡ Idle → ⊥
    wish_pends wish e = grind arith

-- the facts of a pool that runs say nothing of its calls
pub runs_with_calls : (sizes : Sizes) (v : ProcessView) (calls : CallView) → PoolRuns sizes v → PoolRuns sizes (record v { calls = calls })
runs_with_calls sizes v calls h = record {
  kept = record {
    batch = h.kept.batch;
    bound = h.kept.bound;
    quantum = h.kept.quantum;
    room = h.kept.room;
    idle = h.kept.idle;
    none = h.kept.none;
    pending = h.kept.pending;
    given = h.kept.given;
    settled = h.kept.settled;
  };
  counted = h.counted;
  index = h.index;
  age = h.age;
}

-- the plan of a pool under calls is within the table of spares, and withholds at most five batches
stands : (sizes : Sizes) (a : Account) → Scheduled sizes a → Stands a
stands sizes a s = reached_stands sizes.length (transfer_bound sizes) sizes.quantum a s.fit s.reached

-- the table of spares holds of a process in calls
pub in_table : (sizes : Sizes) (i : ℕ) (v : ProcessView) (g : Ledger) → Scheduled sizes g.account → InCalls sizes i v g
    → InTable v.pool.plan
in_table sizes i v g s h = rw (sym h.plan) (stands_table g.account (stands sizes g.account s))

-- it withholds at most five batches
pub withholds_five : (sizes : Sizes) (i : ℕ) (v : ProcessView) (g : Ledger) → Scheduled sizes g.account → InCalls sizes i v g
    → withheld v.pool.plan ≤ 5 * sizes.length
withholds_five sizes i v g s h =
    let length = (reached_sizes sizes.length (transfer_bound sizes) sizes.quantum g.account s.reached).0 in
    rw (sym h.plan) (within g.account.plan (stands_withholds g.account (stands sizes g.account s)) length)
  where
    within : (x : Numbers) → withheld x ≤ 5 * x.length → x.length ≡ sizes.length → withheld x ≤ 5 * sizes.length
    within x h e = rw (sym e) h
