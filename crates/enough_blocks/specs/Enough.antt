-- So many blocks that no legal history refuses one, whatever the processes withhold.
use Rattle.std.specs.Prelude.{◌≡◌, ℕ, ◌+◌, ◌<◌, ◌≤◌, Some, List, ◌++◌, length, sum, slice_get, Contains}
use Rattle.pool_model.specs.declared.entry.Entry.{Entry}
use Rattle.pool_model.specs.declared.entry.Entry.TheVariants.{Dry}
use Rattle.pool_model.specs.Limits.{Limits, greatest_slack}
use Rattle.pool_model.specs.History.{net, own}
use Rattle.pool_model.specs.Legal.{IsLegal}

-- no entry is a refusal
abbrev pub NoneIsDry : List Entry → Type 0
NoneIsDry entries = (by : ℕ) → Contains entries (Dry by) → ⊥

-- a process with these entries holds at most so many blocks, as long as it was refused none
abbrev pub HoldsAtMost : ℕ → List Entry → Type 0
HoldsAtMost most entries = (first rest : List Entry) → first ++ rest ≡ entries → NoneIsDry first → net first ≤ most

-- where each process holds at most its peak as long as none is refused, and there are more blocks than the processes may withhold and hold
-- at their peaks together, no legal history refuses one
abbrev pub EnoughBlocksAreNotRefused : Type 0
EnoughBlocksAreNotRefused = (limits : Limits) (history : List Entry) (peaks : List ℕ)
    → IsLegal limits history → length peaks ≡ limits.processes
    → ((k peak : ℕ) → slice_get peaks k ≡ Some peak → HoldsAtMost peak (own history k))
    → greatest_slack limits + sum peaks < limits.blocks → NoneIsDry history
