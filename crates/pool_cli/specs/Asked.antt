-- What a command asks for: the numbers of its pool, the files that are read, and the scripts that are played.
use Rattle.std.specs.Prelude.{◌≡◌, ℕ, List, [], length, Option}
use Rattle.command_words.specs.declared.command.Command.{Command}
use Rattle.command_words.specs.declared.command.Command.TheVariants.{Play, Drill, Store}
use Rattle.mtrace_reader.specs.declared.trace.Trace.{Trace}
use Rattle.mtrace_reader.specs.declared.steps.Script.{Script}
use Rattle.mtrace_reader.specs.Reading as trace_text
use Rattle.mtrace_reader.specs.Script.{script_of}
use Rattle.store_script.specs.Reading as store_text
use Rattle.pool_runs.specs.Drills.{drill_script}

-- how many batches the pool of a drill has
abbrev pub drill_batches : ℕ
drill_batches = 1024

-- how many processes the pool has: one for each file
abbrev pub processes_of : Command → ℕ
processes_of (Play play) = length play.files
processes_of (Drill drill) = drill.processes
processes_of (Store store) = length store.files

-- how many batches it has
abbrev pub batches_of : Command → ℕ
batches_of (Play play) = play.batches
batches_of (Drill drill) = drill_batches
batches_of (Store store) = store.batches

-- how many data words a block has: those of a record, where records are kept
abbrev pub words_of : Command → ℕ
words_of (Play play) = 0
words_of (Drill drill) = 0
words_of (Store store) = 4

-- its quantum
abbrev pub quantum_of : Command → ℕ
quantum_of (Play play) = play.quantum
quantum_of (Drill drill) = drill.quantum
quantum_of (Store store) = store.quantum

-- the names of the files that are read
abbrev pub files_of : Command → List (List ℕ)
files_of (Play play) = play.files
files_of (Drill drill) = []
files_of (Store store) = store.files

-- the number of the first bad line of a file's bytes, in the language of the command's files
abbrev pub bad_line_of : Command → List ℕ → Option ℕ
bad_line_of (Play play) = trace_text.bad_line
bad_line_of (Drill drill) = trace_text.bad_line
bad_line_of (Store store) = store_text.bad_line

-- the script of a trace's bytes, where a block has `size` bytes
abbrev pub IsScriptOf : ℕ → List ℕ → Script → Type 0
IsScriptOf size bytes script = (trace : Trace) × trace_text.IsReading bytes trace × (script ≡ script_of trace size)

-- the script of a trace that process j plays, where the files have these contents: that of its file, or of the trace that is made for it.
-- A store plays none.
abbrev pub IsScriptFor : Command → (ℕ → List ℕ) → ℕ → Script → Type 0
IsScriptFor (Play play) content j script = IsScriptOf play.size (content j) script
IsScriptFor (Drill drill) content j script = script ≡ drill_script drill.seed drill.calls j
IsScriptFor (Store store) content j script = ⊥

-- the command plays scripts of traces
abbrev pub PlaysTraces : Command → Type 0
PlaysTraces (Play play) = Unit {0}
PlaysTraces (Drill drill) = Unit {0}
PlaysTraces (Store store) = ⊥
