-- how many blocks are unheld while the shared stack is empty
use Rattle.std.proofs.Common.{ℕ, ◌+◌, ◌*◌, ◌<◌, ◌≤◌, arith, List, length}
use Rattle.std.proofs.Math.Seq.{take-length}
use Rattle.pool_model.specs.declared.entry.Entry.{Entry}
use Rattle.pool_model.specs.Limits.{Limits}
use Rattle.pool_model.specs.History.{held, allowance, HasFewUnheld}
use Rattle.transfer_schedule.specs.Numbers.{AreSizes, withheld}
use Rattle.transfer_schedule.specs.Account.{Account, Reached}
use Rattle.transfer_schedule.proofs.AtPhase.{stands_withholds}
use Rattle.transfer_schedule.proofs.Reaching.{reached_stands, reached_sizes}
use Rattle.process_sums.specs.Sums.{total}
use Rattle.process_sums.proofs.Sums.{total_le}
use Rattle.history_invariant.specs.Ledger.{Ledgers}
use Rattle.history_invariant.specs.Holds.{HistoryHolds}

-- a process withholds at most five batches
withholds_five : (length bound quantum : ℕ) (a : Account)
    → AreSizes length bound quantum
    → Reached length bound quantum a
    → withheld a.plan ≤ 5 * length
withholds_five length bound quantum a sizes r =
    omega (arith, stands_withholds a (reached_stands length bound quantum a sizes r), (reached_sizes length bound quantum a r).0)

-- where each block is held or withheld, and each process withholds at most its allowance, at most the slack is unheld
pub allowances_leave_few : (limits : Limits) (history : List Entry) (kept : ℕ → ℕ)
    → ((i : ℕ) → i < limits.processes → kept i ≤ allowance limits history i)
    → limits.blocks ≤ length (held history) + total limits.processes kept
    → HasFewUnheld limits history (length history)
allowances_leave_few limits history kept each all =
    let few = total_le limits.processes kept (allowance limits history) each in
    rw (take-length history) (omega (arith, few))

-- the processes of a history withhold five batches at most
pub few_unheld : (limits : Limits) (bound quantum : ℕ) (history : List Entry) (ledgers : Ledgers)
    → AreSizes limits.batch_length bound quantum
    → HistoryHolds limits bound quantum history ledgers
    → limits.blocks ≤ length (held history) + total limits.processes (λ i. withheld (ledgers i).account.plan)
    → HasFewUnheld limits history (length history)
few_unheld limits bound quantum history ledgers sizes h all =
    allowances_leave_few limits history (λ i. withheld (ledgers i).account.plan)
    (λ i li. withholds_five limits.batch_length bound quantum (ledgers i).account sizes (h.each i li).reached) all
