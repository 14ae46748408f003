-- how the ledger of a process fits the one history
use Rattle.std.specs.Prelude.{◌≡◌, ℕ, ◌≤◌, true, List, [], length, take, drop, count_by}
use Rattle.pool_model.specs.declared.entry.Entry.{Entry}
use Rattle.pool_model.specs.Limits.{Limits}
use Rattle.pool_model.specs.History.{own, HasFewUnheld, is_got, is_back}
use Rattle.transfer_schedule.specs.Numbers.{is_taking}
use Rattle.transfer_schedule.specs.Account.{Account, Reached}
use Rattle.history_invariant.specs.Ledger.{Ledger, IsAnnounced}

-- the account counts the entries of its process
pub record CountsEntries (account : Account) (mine : List Entry) : Type 0 where
  pub entries : account.entries ≡ length mine
  pub gots : account.gots ≡ count_by is_got mine
  pub backs : account.backs ≡ count_by is_back mine
  -- no entry is one of a retirement
  pub unbroken : account.unbroken ≡ true

-- the process has all its entries in the history, and has seen a beginning of it that has them all
pub record SeesBeginning (history : List Entry) (i : ℕ) (ledger : Ledger) : Type 0 where
  pub own_entries : own history i ≡ ledger.entries
  pub own_seen : own ledger.seen i ≡ ledger.entries
  pub beginning : take (length ledger.seen) history ≡ ledger.seen

-- before the kept places stand as many own entries as the account says; of a transfer that is still to be announced no place is kept yet
pub record KeepsPlaces (history : List Entry) (i : ℕ) (ledger : Ledger) : Type 0 where
  pub begun_within : ledger.begun_place ≤ length history
  pub begun_here : IsAnnounced ledger.account → length (own (take ledger.begun_place history) i) ≡ ledger.account.begun
  pub ended_within : ledger.ended_place ≤ length history
  pub ended_here : length (own (take ledger.ended_place history) i) ≡ ledger.account.ended

-- at a place of the history, not before this one, at most the slack was unheld
pub record HadFewSince (limits : Limits) (history : List Entry) (start : ℕ) : Type 0 where
  pub place : ℕ
  pub after : start ≤ place
  pub within : place ≤ length history
  pub few : HasFewUnheld limits history place

-- a take that found nothing had a moment since its announcement when few blocks were unheld: the pending one, and the last
-- ended one where the plan says dry
pub record FoundFew (limits : Limits) (history : List Entry) (ledger : Ledger) : Type 0 where
  pub pending : is_taking ledger.account.plan.pending ≡ true → IsAnnounced ledger.account → ledger.found_nothing ≡ true
      → HadFewSince limits history ledger.begun_place
  pub dry : ledger.account.plan.dry ≡ true → HadFewSince limits history ledger.ended_place

-- at a place after the last entry of process i at most the slack was unheld
pub record HadFewNow (limits : Limits) (history : List Entry) (i : ℕ) : Type 0 where
  pub place : ℕ
  pub within : place ≤ length history
  pub since : own (drop place history) i ≡ []
  pub few : HasFewUnheld limits history place

-- the ledger of process i fits the history
pub record LedgerFits (limits : Limits) (bound quantum : ℕ) (history : List Entry) (i : ℕ) (ledger : Ledger) : Type 0 where
  pub reached : Reached limits.batch_length bound quantum ledger.account
  pub counts : CountsEntries ledger.account ledger.entries
  pub sees : SeesBeginning history i ledger
  pub places : KeepsPlaces history i ledger
  pub found : FoundFew limits history ledger
