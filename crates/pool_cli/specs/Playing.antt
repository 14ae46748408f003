-- The scripts that a command plays, and what is printed of them.
use Rattle.std.specs.Prelude.{◌≡◌, ◌≤◌, ℕ, List, Option, length}
use Rattle.std.specs.List.{All}
use Rattle.command_words.specs.declared.command.Command.{Command}
use Rattle.command_words.specs.declared.command.Command.TheVariants.{Play, Drill, Store}
use Rattle.word_layout.specs.Sizes.{Sizes}
use Rattle.block_pool.specs.Closing.{Settlement}
use Rattle.mtrace_reader.specs.Reading as trace_text
use Rattle.store_script.specs.Reading as store_text
use Rattle.pool_runs.specs.Drills.{drill_scripts}
use Rattle.pool_runs.specs.Playable as traces
use Rattle.store_runs.specs.Playable as stores
use Rattle.pool_cli.specs.declared.scripts.Scripts.{Scripts}
use Rattle.pool_cli.specs.declared.scripts.Scripts.TheVariants.{Traces, Stores}
use Rattle.pool_cli.specs.Asked.{IsScriptOf}
use Rattle.pool_cli.specs.Gates.{Gates}
use Rattle.pool_cli.specs.Printed.{AreRepliesOf, IsReportOf}
use Rattle.file_runs.specs.Reading.{ReadsAll}

-- these are the scripts that the command plays, where the files tell this
abbrev pub AreScriptsOf : (List ℕ → Option (List ℕ)) → Command → Scripts → Type 0
AreScriptsOf told (Play play) (Traces scripts) = ReadsAll trace_text.bad_line (IsScriptOf play.size) told play.files scripts.items
AreScriptsOf told (Drill drill) (Traces scripts) = scripts.items ≡ drill_scripts drill.seed drill.calls drill.processes
AreScriptsOf told (Store store) (Stores scripts) = ReadsAll store_text.bad_line store_text.IsReading told store.files scripts.items
AreScriptsOf told command scripts = ⊥

-- fresh processes may play them
abbrev pub ArePlayable : Scripts → Type 0
ArePlayable (Traces scripts) = All traces.IsPlayable scripts.items
ArePlayable (Stores scripts) = All stores.IsPlayable scripts.items

-- there is one for each process of a pool of these numbers, and its blocks have the words that they need
abbrev pub Fit : Sizes → Scripts → Type 0
Fit sizes (Traces scripts) = length scripts.items ≡ sizes.processes
Fit sizes (Stores scripts) = (length scripts.items ≡ sizes.processes) × (4 ≤ sizes.words)

-- the text is what is printed of them, over a pool of these numbers that was closed with this history; the gates were told of its calls
abbrev pub IsTextOf : Gates → Sizes → Scripts → Settlement → List ℕ → Type 0
IsTextOf gates sizes (Traces scripts) settled text = IsReportOf gates sizes scripts.items settled text
IsTextOf gates sizes (Stores scripts) settled text = AreRepliesOf gates sizes scripts.items settled text
