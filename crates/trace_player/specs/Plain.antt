-- Scripts that are played one after the other over one plain pool.
use Rattle.std.specs.Prelude.{◌≡◌, ℕ, ◌<◌, Some, List, length, map, flat_map, sum_by, slice_get}
use Rattle.std.specs.List.{range_with_len}
use Rattle.pool_model.specs.declared.entry.Entry.{Entry}
use Rattle.pool_model.specs.Limits.{Limits}
use Rattle.pool_model.specs.History.{own}
use Rattle.pool_model.specs.Legal.{IsExact}
use Rattle.mtrace_reader.specs.declared.steps.Script.{Script}
use Rattle.trace_player.specs.declared.tally.Tally.{Tally}
use Rattle.trace_player.specs.Tally.{no_refusals, peak_of, tally_of}
use Rattle.trace_player.specs.Fit.{IsTallied}

-- the processes below the count made their entries in turn: first all of process 0, then all of process 1, and so on
abbrev pub IsInTurn : ℕ → List Entry → Type 0
IsInTurn count history = history ≡ flat_map (own history) (range_with_len 0 count)

-- the sum, over the scripts, of the most blocks that each holds where nothing is refused
abbrev pub peaks_without_refusals : List Script → ℕ
peaks_without_refusals scripts = sum_by (λ script. peak_of (no_refusals script) script.steps) scripts

-- the tallies of the scripts where nothing is refused: they follow from the scripts alone
abbrev pub tallies_without_refusals : List Script → List Tally
tallies_without_refusals scripts = map (λ script. tally_of script (no_refusals script)) scripts

-- each script was played by the process of its number, in turn, and the tallies are those of one history, which refuses only
-- where all blocks are held
pub record PlayedInTurn (blocks : ℕ) (scripts : List Script) (tallies : List Tally) : Type 0 where
  pub history : List Entry
  pub exact : (limits : Limits) → limits.processes ≡ length scripts → limits.blocks ≡ blocks → 0 < limits.batch_length
      → IsExact limits history
  pub in_turn : IsInTurn (length scripts) history
  pub one_each : length tallies ≡ length scripts
  pub each : (i : ℕ) (script : Script) (tally : Tally) → slice_get scripts i ≡ Some script → slice_get tallies i ≡ Some tally
      → IsTallied i script (own history i) tally
