-- how the ledgers move on: by steps that make no entry, by exchanges of the state, and by entries
use Rattle.std.specs.Prelude.{◌≡◌, ◌≢◌, ◌==◌, ℕ, ◌+◌, ◌<◌, ◌≤◌, Bool, true, false, if◌then◌else◌, List, [], ◌∷◌, ◌++◌, length}
use Rattle.pool_model.specs.declared.entry.Entry.{Entry}
use Rattle.pool_model.specs.Limits.{Limits}
use Rattle.pool_model.specs.History.{HasFewUnheld}
use Rattle.transfer_schedule.specs.Numbers.{is_taking, is_giving}
pub use Rattle.transfer_schedule.specs.Account.{stepped, ended_with, got_one, got_none, gave_back}
use Rattle.transfer_schedule.specs.Account.{Account, Follows, moves_in}
use Rattle.history_invariant.specs.Ledger.{Ledger, Ledgers, IsAnnounced}

-- the ledger when the transfer is announced: its place is kept, and what a take of it finds is still open
abbrev pub announced : Ledger → Ledger
announced ledger = record ledger { account = stepped ledger.account; begun_place = length ledger.seen; found_nothing = false }

-- the ledger when the transfer ends: the place of a take becomes that of the last ended one
abbrev pub ended : Bool → Ledger → Ledger
ended found ledger = record ledger {
  account = ended_with found ledger.account;
  ended_place = if is_taking ledger.account.plan.pending then ledger.begun_place else ledger.ended_place;
}

-- one step of a process that makes no entry leads from its ledger to the next
pub data GoesOn (ledger : Ledger) : Ledger → Type 0 where
  -- a call begins, or goes on to another transfer
  begins : (account : Account) → moves_in ledger.account.phase ≡ false → account.entries ≡ ledger.account.entries
      → Follows ledger.account account
      → GoesOn ledger (record ledger { account = account })
  -- the first step of the transfer announces it
  announces : moves_in ledger.account.phase ≡ true
      → ledger.account.plan.done ≡ 0
      → 1 < ledger.account.plan.bound
      → GoesOn ledger (announced ledger)
  -- a later step of the transfer, which goes on
  moves : moves_in ledger.account.phase ≡ true
      → IsAnnounced ledger.account
      → ledger.account.plan.done + 1 < ledger.account.plan.bound
      → GoesOn ledger (record ledger { account = stepped ledger.account })
  -- the last step of the transfer: a take ends with nothing only where it was applied with nothing
  ends : (found : Bool) → moves_in ledger.account.phase ≡ true
      → IsAnnounced ledger.account
      → ledger.account.plan.done + 1 ≤ ledger.account.plan.bound
      → (is_giving ledger.account.plan.pending ≡ true → found ≡ true)
      → (is_taking ledger.account.plan.pending ≡ true → found ≡ false → ledger.found_nothing ≡ true)
      → GoesOn ledger (ended found ledger)

-- what an exchange of the state makes of a ledger: nothing, or its take has found nothing, at a moment when few blocks are unheld
pub data Emptied (limits : Limits) (history : List Entry) (ledger : Ledger) : Ledger → Type 0 where
  stays : Emptied limits history ledger ledger
  empties : HasFewUnheld limits history (length history)
      → Emptied limits history ledger (record ledger { found_nothing = true })

-- the process makes an entry, and so has seen the whole history
abbrev pub entered : List Entry → Entry → Account → Ledger → Ledger
entered history entry account ledger = record ledger {
  account = account;
  entries = ledger.entries ++ entry ∷ [];
  seen = history ++ entry ∷ [];
}

-- the ledger of process i becomes another, all others stay
pub record Replaced (i : ℕ) (ledger : Ledger) (ledgers after : Ledgers) : Type 0 where
  pub here : after i ≡ ledger
  pub elsewhere : (other : ℕ) → other ≢ i → after other ≡ ledgers other

-- the ledgers where that of process i has become another
abbrev pub with_ledger : ℕ → Ledger → Ledgers → Ledgers
with_ledger i ledger ledgers other = if other == i then ledger else ledgers other
