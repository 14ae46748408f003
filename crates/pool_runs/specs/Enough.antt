-- So many blocks that nothing is refused, whatever the processes withhold.
use Rattle.std.specs.Prelude.{◌≡◌, ℕ, ◌+◌, ◌<◌, Some, List, length, All, slice_get}
use Rattle.pool_model.specs.declared.entry.Entry.{Entry}
use Rattle.pool_model.specs.Limits.{Limits, greatest_slack}
use Rattle.pool_model.specs.History.{own}
use Rattle.pool_model.specs.Legal.{IsLegal}
use Rattle.mtrace_reader.specs.declared.steps.Script.{Script}
use Rattle.mtrace_reader.specs.Script.{IsWellFormed}
use Rattle.trace_player.specs.declared.tally.Tally.{Tally}
use Rattle.trace_player.specs.Fit.{IsTallied}
use Rattle.trace_player.specs.Plain.{peaks_without_refusals, tallies_without_refusals}

-- there is a tally for each script: the entries of the process of its place fit it, with refusals that they determine, and give the tally
pub record AreTallied (history : List Entry) (scripts : List Script) (tallies : List Tally) : Type 0 where
  pub one_each : length tallies ≡ length scripts
  pub each : (k : ℕ) (script : Script) (tally : Tally) → slice_get scripts k ≡ Some script → slice_get tallies k ≡ Some tally
      → IsTallied k script (own history k) tally

-- the blocks are more than the processes may withhold and the scripts hold at most where nothing is refused
abbrev pub HasEnough : Limits → List Script → Type 0
HasEnough limits scripts = greatest_slack limits + peaks_without_refusals scripts < limits.blocks

-- then no legal history refuses one, and the tallies follow from the scripts alone
abbrev pub EnoughBlocksRefuseNothing : Type 0
EnoughBlocksRefuseNothing = (limits : Limits) (history : List Entry) (scripts : List Script) (tallies : List Tally)
    → IsLegal limits history → length scripts ≡ limits.processes → All IsWellFormed scripts → AreTallied history scripts tallies
    → HasEnough limits scripts → tallies ≡ tallies_without_refusals scripts
