-- Which calls of a process fit a script.
use Rattle.std.specs.Prelude.{◌≡◌, ℕ, Bool, List, [], ◌∷◌, length, flat_map, slice_index, if◌then◌else◌}
use Rattle.pool_model.specs.declared.entry.Entry.{Entry}
use Rattle.pool_model.specs.declared.entry.Entry.TheVariants.{Got, Back, Dry}
use Rattle.mtrace_reader.specs.declared.steps.Step.{Step}
use Rattle.mtrace_reader.specs.declared.steps.Step.TheVariants.{Place, Leave}
use Rattle.mtrace_reader.specs.declared.steps.Script.{Script}
use Rattle.trace_player.specs.declared.tally.Tally.{Tally}
use Rattle.trace_player.specs.Tally.{is_refused, tally_of}

-- the calls of process i for a step: an allocate for a Place, and a free of the slot's block for a Leave, unless the slot was refused
abbrev pub calls_of : ℕ → List Bool → List ℕ → Step → List Entry
calls_of i refused blocks (Place slot) = (if is_refused refused slot then Dry i else Got i (slice_index blocks slot)) ∷ []
calls_of i refused blocks (Leave slot) = if is_refused refused slot then [] else Back i (slice_index blocks slot) ∷ []

-- the entries are the calls of process i for the script's steps, with these refusals and some block for each slot
pub record Fits (i : ℕ) (script : Script) (refused : List Bool) (entries : List Entry) : Type 0 where
  pub one_each : length refused ≡ script.news
  pub blocks : List ℕ
  pub step_by_step : entries ≡ flat_map (calls_of i refused blocks) script.steps

-- the entries of process i fit its script with refusals that they determine, and the tally is that of these refusals
pub record IsTallied (i : ℕ) (script : Script) (entries : List Entry) (tally : Tally) : Type 0 where
  pub refused : List Bool
  pub fits : Fits i script refused entries
  pub only : (other : List Bool) → Fits i script other entries → other ≡ refused
  pub tallied : tally ≡ tally_of script refused
