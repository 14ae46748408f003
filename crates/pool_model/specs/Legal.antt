-- Which histories are legal: each entry asks something of the entries before it, which are called `past` here.
use Rattle.std.specs.Prelude.{◌≡◌, ℕ, ◌<◌, ◌≤◌, List, length, take, drop, slice_get, Contains, IfSome}
use Rattle.pool_model.specs.declared.entry.Entry.{Entry}
use Rattle.pool_model.specs.declared.entry.Entry.TheVariants.{Got, Back, Dry}
use Rattle.pool_model.specs.Limits.{Limits, window}
use Rattle.pool_model.specs.History.{own, held, unheld, HasFewUnheld, grip, net}

-- the place is in the window of a refusal of process i after `past`: fewer than 2l of its entries were made since
pub record IsInWindow (limits : Limits) (past : List Entry) (i place : ℕ) : Type 0 where
  pub before : place ≤ length past
  pub recent : length (own (drop place past) i) < window limits

-- what each refusal of process i asks of its past: a place in its window where at most the slack was unheld
pub record HadFew (limits : Limits) (past : List Entry) (i : ℕ) : Type 0 where
  pub place : ℕ
  pub in_window : IsInWindow limits past i place
  pub few : HasFewUnheld limits past place

-- what an entry asks of its past: its process is one of the shape; a Got names a block of the pool that nobody holds,
-- a Back one that its process holds, and a Dry had few unheld blocks in its window
abbrev pub MayFollow : Limits → List Entry → Entry → Type 0
MayFollow limits past (Got by block) = (by < limits.processes) × (block < limits.blocks) × ¬ Contains (held past) block
MayFollow limits past (Back by block) = (by < limits.processes) × Contains (grip (own past by)) block
MayFollow limits past (Dry by) = (by < limits.processes) × HadFew limits past by

-- before a refusal its process has got at least 2l blocks more than it gave back; all other entries ask nothing
abbrev pub HasNet : Limits → List Entry → Entry → Type 0
HasNet limits past (Got by block) = Unit {0}
HasNet limits past (Back by block) = Unit {0}
HasNet limits past (Dry by) = window limits ≤ net (own past by)

-- at a refusal no block is unheld; all other entries ask nothing
abbrev pub IsDryWhenFull : Limits → List Entry → Entry → Type 0
IsDryWhenFull limits past (Got by block) = Unit {0}
IsDryWhenFull limits past (Back by block) = Unit {0}
IsDryWhenFull limits past (Dry by) = unheld limits past (length past) ≡ 0

-- each entry of the history meets the fact, with the entries before it
abbrev pub EachEntry : (List Entry → Entry → Type 0) → List Entry → Type 0
EachEntry Fact history = (x : ℕ) → IfSome (slice_get history x) (Fact (take x history))

-- the history is one of a free set whose refusals come only where few blocks were unheld
pub record IsLegal (limits : Limits) (history : List Entry) : Type 0 where
  pub follows : EachEntry (MayFollow limits) history
  pub nets : EachEntry (HasNet limits) history

-- the history is one of a free set that refuses only where all blocks are held
pub record IsExact (limits : Limits) (history : List Entry) : Type 0 where
  pub follows : EachEntry (MayFollow limits) history
  pub full : EachEntry (IsDryWhenFull limits) history
