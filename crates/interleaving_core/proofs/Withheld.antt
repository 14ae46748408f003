-- what a process keeps is at most what its plan withholds
use Rattle.std.proofs.Common.{◌≡◌, ℕ, ◌≤◌, true, refl, arith}
use Rattle.word_layout.specs.Sizes.{Sizes}
use Rattle.transfer_schedule.specs.Numbers.{is_idle, withheld}
use Rattle.transfer_schedule.specs.declared.pending.Pending.{Pending}
use Rattle.transfer_schedule.specs.declared.pending.Pending.TheVariants.{Idle}
use Rattle.transfer_machine.specs.States.{StackState}
use Rattle.pool_machine.specs.declared.view.ProcessView.{ProcessView}
use Rattle.chain_invariant.specs.Laws.{kept_blocks}
use Rattle.chain_invariant.proofs.Kept.{kept_is_withheld}
use Rattle.call_invariant.specs.Uses.{PoolKeeps}
use Rattle.call_invariant.proofs.Uses.{idle_pool_rests}

-- what is told to be idle is
pub idle_is : (p : Pending) → is_idle p ≡ true → p ≡ Idle
idle_is p e = grind arith

-- what a process keeps is at most what its plan withholds
pub withholds : (sizes : Sizes) (t : StackState) (i : ℕ) (v : ProcessView) → PoolKeeps sizes v
    → kept_blocks sizes t i v ≤ withheld v.pool.plan
withholds sizes t i v k =
    kept_is_withheld sizes t i v (is_idle v.pool.plan.pending) refl
    (record { size = k.runs.kept.batch; heads = k.heads; idle = λ e. idle_pool_rests sizes v k (idle_is v.pool.plan.pending e) })
