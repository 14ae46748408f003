-- the invariant's part on the one history
use Rattle.std.specs.Prelude.{◌≡◌, ℕ, ◌<◌, List, length}
use Rattle.pool_model.specs.declared.entry.Entry.{Entry}
use Rattle.pool_model.specs.Limits.{Limits}
use Rattle.pool_model.specs.Legal.{IsLegal}
use Rattle.history_invariant.specs.Ledger.{Ledgers}
use Rattle.history_invariant.specs.Fits.{LedgerFits}

-- some process has seen the whole history
pub record SomeSeesAll (processes : ℕ) (history : List Entry) (ledgers : Ledgers) : Type 0 where
  pub process : ℕ
  pub one : process < processes
  pub all : (ledgers process).seen ≡ history

-- there is one legal history, each ledger fits it, and where it has an entry, some process has seen it whole
pub record HistoryHolds (limits : Limits) (bound quantum : ℕ) (history : List Entry) (ledgers : Ledgers) : Type 0 where
  pub legal : IsLegal limits history
  pub each : (i : ℕ) → i < limits.processes → LedgerFits limits bound quantum history i (ledgers i)
  pub longest : 0 < length history → SomeSeesAll limits.processes history ledgers
