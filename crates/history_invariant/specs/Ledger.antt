-- what proofs know of the calls of one process
use Rattle.std.specs.Prelude.{ℕ, ◌<◌, Bool, false, List, []}
use Rattle.pool_model.specs.declared.entry.Entry.{Entry}
use Rattle.transfer_schedule.specs.Account.{Account, opened}

-- the ledger of a process: its account, its entries, and what it has seen of the one history
pub record Ledger : Type 0 where
  pub account : Account
  pub entries : List Entry
  -- the history as it was when the process made its last entry
  pub seen : List Entry
  -- how many entries the process had seen when its last transfer was announced, and when its last ended take was
  pub begun_place : ℕ
  pub ended_place : ℕ
  -- its pending take has been applied and found nothing
  pub found_nothing : Bool

-- the ledgers of the processes
abbrev pub Ledgers : Type 0
Ledgers = ℕ → Ledger

-- the ledger of a process at the opening of its pool
abbrev pub opening_ledger : ℕ → ℕ → ℕ → Ledger
opening_ledger length bound quantum = record {
  account = opened length bound quantum;
  entries = [];
  seen = [];
  begun_place = 0;
  ended_place = 0;
  found_nothing = false;
}

-- the pending transfer is announced: that is its first step
abbrev pub IsAnnounced : Account → Type 0
IsAnnounced account = 0 < account.plan.done
