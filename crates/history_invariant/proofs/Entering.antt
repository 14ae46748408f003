-- What each kind of entry owes.
use Rattle.std.proofs.Common.{◌≡◌, ◌≢◌, ℕ, ◌<◌, true, refl, arith, List, [], ◌∷◌, ◌++◌, length-append}
use Rattle.std.specs.List.{Contains, count_by}
use Rattle.pool_model.specs.declared.entry.Entry.{Entry}
use Rattle.pool_model.specs.declared.entry.Entry.TheVariants.{Got, Back, Dry}
use Rattle.pool_model.specs.Limits.{Limits}
use Rattle.pool_model.specs.History.{held, grip, is_got, is_back}
use Rattle.transfer_schedule.specs.declared.own_step.Source.TheVariants.{Nothing}
use Rattle.transfer_schedule.specs.Numbers.{AreSizes, source_of}
use Rattle.transfer_schedule.specs.Account.{Account, Own, asks_in, gets, refuses, frees, follows}
use Rattle.transfer_schedule.proofs.Operations.{took_same, gave_same}
use Rattle.history_invariant.specs.Ledger.{Ledger}
use Rattle.history_invariant.specs.Fits.{CountsEntries, LedgerFits}
use Rattle.history_invariant.specs.Steps.{got_one, got_none, gave_back}
use Rattle.history_invariant.specs.Grips.{Balances}
use Rattle.history_invariant.proofs.Times.{length_without, times_contained}
use Rattle.history_invariant.proofs.Shared.{Shared, gots_more, backs_more}
use Rattle.history_invariant.proofs.Fitting.{KeepsTransfer, Owes}
use Rattle.history_invariant.proofs.Refusals.{refusal_may_follow, refusal_has_net}

-- an own step leaves the transfer as it was
got_keeps : (a : Account) → KeepsTransfer a (got_one a)
got_keeps a = record { begun = refl; ended = refl; plan = took_same a.plan }

none_keeps : (a : Account) → KeepsTransfer a (got_none a)
none_keeps a = record { begun = refl; ended = refl; plan = took_same a.plan }

back_keeps : (a : Account) → KeepsTransfer a (gave_back a)
back_keeps a = record { begun = refl; ended = refl; plan = gave_same a.plan }

-- the account counts the entry
got_counts : (a : Account) (entries : List Entry) (by block : ℕ)
    → CountsEntries a entries
    → CountsEntries (got_one a) (entries ++ Got by block ∷ [])
got_counts a entries by block c = record {
  entries = omega (arith, c.entries, length-append entries (Got by block ∷ []));
  gots = omega (arith, c.gots, gots_more entries (Got by block));
  backs = omega (arith, c.backs, backs_more entries (Got by block));
  unbroken = c.unbroken;
}

none_counts : (a : Account) (entries : List Entry) (by : ℕ) → CountsEntries a entries → CountsEntries (got_none a) (entries ++ Dry by ∷ [])
none_counts a entries by c = record {
  entries = omega (arith, c.entries, length-append entries (Dry by ∷ []));
  gots = omega (arith, c.gots, gots_more entries (Dry by));
  backs = omega (arith, c.backs, backs_more entries (Dry by));
  unbroken = c.unbroken;
}

back_counts : (a : Account) (entries : List Entry) (by block : ℕ)
    → CountsEntries a entries
    → CountsEntries (gave_back a) (entries ++ Back by block ∷ [])
back_counts a entries by block c = record {
  entries = omega (arith, c.entries, length-append entries (Back by block ∷ []));
  gots = omega (arith, c.gots, gots_more entries (Back by block));
  backs = omega (arith, c.backs, backs_more entries (Back by block));
  unbroken = c.unbroken;
}

-- an allocate that is given a block
pub got_owes : (limits : Limits) (bound quantum : ℕ) (history : List Entry) (i block : ℕ) (ledger : Ledger)
    → i < limits.processes
    → LedgerFits limits bound quantum history i ledger
    → asks_in ledger.account.phase ≡ true
    → source_of ledger.account.plan ≢ Nothing
    → block < limits.blocks
    → ¬ Contains (held history) block
    → Owes limits bound quantum history (Got i block) (got_one ledger.account) ledger
got_owes limits bound quantum history i block ledger lt f phase some low free = record {
  may = (lt, low, free);
  net = tt;
  reached = follows f.reached (gets phase some);
  counts = got_counts ledger.account ledger.entries i block f.counts;
  keeps = got_keeps ledger.account;
}

-- a free: its process got more blocks than it gave back
more_gots : (entries : List Entry) (block : ℕ) → Contains (grip entries) block → Balances entries
    → count_by is_back entries < count_by is_got entries
more_gots entries block mine balance =
    omega (arith, balance, times_contained block (grip entries) mine, length_without block (grip entries))

-- a free of a block that its process holds meets what its entry owes
pub back_owes : (limits : Limits) (bound quantum : ℕ) (history : List Entry) (i block : ℕ) (ledger : Ledger)
    → i < limits.processes
    → Shared limits history
    → LedgerFits limits bound quantum history i ledger
    → ledger.account.phase ≡ Own
    → Contains (grip ledger.entries) block
    → Owes limits bound quantum history (Back i block) (gave_back ledger.account) ledger
back_owes limits bound quantum history i block ledger lt shared f phase mine =
    let balance = rw f.sees.own_entries at (shared.balance i lt) in
    record {
      may = (lt, rw f.sees.own_entries mine);
      net = tt;
      reached = follows f.reached (frees phase
          (λ unbroken. omega (arith, f.counts.gots, f.counts.backs, more_gots ledger.entries block mine balance)));
      counts = back_counts ledger.account ledger.entries i block f.counts;
      keeps = back_keeps ledger.account;
    }

-- a refusal
pub refusal_owes : (limits : Limits) (bound quantum : ℕ) (history : List Entry) (i : ℕ) (ledger : Ledger)
    → AreSizes limits.batch_length bound quantum
    → i < limits.processes → LedgerFits limits bound quantum history i ledger
    → asks_in ledger.account.phase ≡ true
    → source_of ledger.account.plan ≡ Nothing
    → Owes limits bound quantum history (Dry i) (got_none ledger.account) ledger
refusal_owes limits bound quantum history i ledger sizes lt f phase none = record {
  may = refusal_may_follow limits bound quantum history i ledger sizes lt f phase none;
  net = refusal_has_net limits bound quantum history i ledger sizes f phase none;
  reached = follows f.reached (refuses phase none);
  counts = none_counts ledger.account ledger.entries i f.counts;
  keeps = none_keeps ledger.account;
}
