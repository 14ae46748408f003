-- When each ending of a run comes.
use Rattle.std.specs.Prelude.{◌≡◌, ℕ, ◌+◌, ◌^◌, ◌<◌, ◌≤◌, Option, Some, None, Result, List, length, slice_get, codes}
use Rattle.command_words.specs.declared.command.Command.{Command}
use Rattle.command_words.specs.declared.command.Command.TheVariants.{Play, Drill, Store}
use Rattle.word_layout.specs.declared.fault.ShapeFault.{ShapeFault}
use Rattle.word_layout.specs.Sizes.{Sizes, limits_of}
use Rattle.word_layout.specs.Faults.{IsFirstFault}
use Rattle.pool_model.specs.History.{own}
use Rattle.block_pool.specs.Closing.{Settlement}
use Rattle.pool_runs.specs.Enough.{HasEnough}
use Rattle.pool_runs.specs.Settled.{IsClosedRun}
use Rattle.pass_players.specs.Settled as players
use Rattle.store_player.specs.Player.{IsServed}
use Rattle.pool_cli.specs.Gates.{Gates}
use Rattle.pool_io.specs.Counts.{HasRisen}
use Rattle.pool_io.specs.Told.{GrowsBy, GrowsByPart}
use Rattle.pool_io.specs.Writes.{Writes}
use Rattle.pool_io.specs.declared.files.Failed.{Failed}
use Rattle.pool_io.specs.declared.sink.Sink.{Ghosts}
use Rattle.mtrace_reader.specs.declared.steps.Script.{Script}
use Rattle.store_script.specs.declared.command.StoreScript.{StoreScript}
use Rattle.store_script.specs.declared.answered.Answered.{Answered}
use Rattle.store_script.specs.Reading.{IsReading}
use Rattle.store_runs.specs.Enough as stores
use Rattle.store_runs.specs.Enough.{answers_without_refusals}
use Rattle.trace_player.specs.declared.tally.Tally.{Tally}
use Rattle.trace_player.specs.Fit.{IsTallied}
use Rattle.trace_player.specs.Plain.{tallies_without_refusals}
use Rattle.trace_player.specs.Report.{report}
use Rattle.file_runs.specs.declared.ending.Ending.{Ending}
use Rattle.file_runs.specs.declared.ending.Ending.TheVariants.{Done, Words, Shape, Read, Long, Line, Write, Memory}
use Rattle.pool_cli.specs.Asked.{IsScriptFor, PlaysTraces, bad_line_of, batches_of, files_of, processes_of, quantum_of, words_of}
use Rattle.file_runs.specs.Ending.{line_of, status_of}
use Rattle.file_runs.specs.Reading.{AreFine, Hold, IsWithin, StopsAt}
use Rattle.file_runs.specs.Outside.{HasOpened, IsUntouched, IsUnwritten, Outside, TakesText}
use Rattle.pool_cli.specs.Replies.{replies}
use Rattle.pool_cli.specs.Shapes.{IsShapeOf}

-- all files that a command names are fine
abbrev pub FilesAreFine : Command → (ℕ → List ℕ) → Type 0
FilesAreFine command content = AreFine (bad_line_of command) content (length (files_of command))

-- these are the scripts of traces that a command plays, where the files have these contents, one for each process
pub record AreScriptsFor (command : Command) (content : ℕ → List ℕ) (scripts : List Script) : Type 0 where
  pub traces : PlaysTraces command
  pub one_each : length scripts ≡ processes_of command
  pub each : (j : ℕ) (script : Script) → slice_get scripts j ≡ Some script → IsScriptFor command content j script

-- the words ask for this command, and its numbers are those of a pool
pub record IsAccepted (meaning : Option Command) (command : Command) (sizes : Sizes) : Type 0 where
  pub meant : meaning ≡ Some command
  pub asked : IsShapeOf command sizes

-- the entries of each process in the history fit its script, with refusals that they determine, and give its tally
abbrev pub IsHistoryOf : Command → (ℕ → List ℕ) → Settlement → List Tally → Type 0
IsHistoryOf command content settled tallies = (j : ℕ) (tally : Tally) → slice_get tallies j ≡ Some tally
    → (script : Script) × IsScriptFor command content j script × IsTallied j script (own settled.history j) tally

-- these are the scripts that the command plays, and the pool has more blocks than its processes may withhold and the scripts hold at
-- most if nothing is refused
pub record HasEnoughBlocks (command : Command) (sizes : Sizes) (content : ℕ → List ℕ) (scripts : List Script) : Type 0 where
  pub are_scripts : AreScriptsFor command content scripts
  pub enough : HasEnough (limits_of sizes) scripts

-- all files were read and all scripts of traces played. The pool was closed with one legal history of a free set, of the shape that is
-- asked for; each call made at most a quantum of steps and one, and its process told its gate of it before. Where the files' bytes are
-- told: the files are fine, the tallies are computed from the one history, and with enough blocks from the scripts alone.
pub record IsPlayed (told : List ℕ → Option (List ℕ)) (gates : Gates) (command : Command) (sizes : Sizes) (settled : Settlement)
    (tallies : List Tally) : Type 0 where
  pub one_each : length tallies ≡ processes_of command
  pub run : IsClosedRun gates.before gates.now sizes settled
  pub fine : (content : ℕ → List ℕ) → Hold told (files_of command) content (length (files_of command)) → FilesAreFine command content
  pub played : (content : ℕ → List ℕ) → Hold told (files_of command) content (length (files_of command))
      → IsHistoryOf command content settled tallies
  pub unrefused : (content : ℕ → List ℕ) → Hold told (files_of command) content (length (files_of command))
      → (scripts : List Script) → HasEnoughBlocks command sizes content scripts → tallies ≡ tallies_without_refusals scripts

-- these are the scripts of a store's files, one for each process, and the pool has more blocks than its processes may withhold and than
-- the keys that are present at most if no put is refused
pub record HasEnoughForStores (command : Command) (sizes : Sizes) (content : ℕ → List ℕ) (scripts : List StoreScript) : Type 0 where
  pub one_each : length scripts ≡ processes_of command
  pub each : (j : ℕ) (script : StoreScript) → slice_get scripts j ≡ Some script → IsReading (content j) script
  pub enough : stores.HasEnough (limits_of sizes) scripts

-- all files were read and all store scripts played. The pool was closed with one legal history of a free set, of the shape that is asked
-- for; the entries of each process fit its script, with refusals that they determine, and the answers are those with these; each command
-- took its steps, and its process told its gate of each call before. Where the files' bytes are told: the files are fine and say these
-- scripts, and with enough blocks the answers follow from the scripts alone.
pub record IsAnsweredAll (told : List ℕ → Option (List ℕ)) (gates : Gates) (command : Command) (sizes : Sizes) (settled : Settlement)
    (lists : List (List Answered)) : Type 0 where
  pub scripts : List StoreScript
  pub one_each : length scripts ≡ processes_of command
  pub run : players.IsSettledBy IsServed gates.before gates.now sizes scripts lists settled
  pub fine : (content : ℕ → List ℕ) → Hold told (files_of command) content (length (files_of command)) → FilesAreFine command content
  pub said : (content : ℕ → List ℕ) → Hold told (files_of command) content (length (files_of command))
      → (j : ℕ) (script : StoreScript) → slice_get scripts j ≡ Some script → IsReading (content j) script
  pub unrefused : (content : ℕ → List ℕ) → Hold told (files_of command) content (length (files_of command))
      → (others : List StoreScript) → HasEnoughForStores command sizes content others → lists ≡ answers_without_refusals others

-- the text is the report of tallies that are played for
pub record PrintsReport (told : List ℕ → Option (List ℕ)) (gates : Gates) (command : Command) (sizes : Sizes) (settled : Settlement)
    (text : List ℕ) : Type 0 where
  pub tallies : List Tally
  pub played : IsPlayed told gates command sizes settled tallies
  pub is : text ≡ report tallies

-- the text is the replies to all files, one after the other
pub record PrintsReplies (told : List ℕ → Option (List ℕ)) (gates : Gates) (command : Command) (sizes : Sizes) (settled : Settlement)
    (text : List ℕ) : Type 0 where
  pub lists : List (List Answered)
  pub answered : IsAnsweredAll told gates command sizes settled lists
  pub is : text ≡ replies lists

-- what a command prints over a pool of this shape that was closed with this history, of whose calls the gates were told
abbrev pub Prints : (List ℕ → Option (List ℕ)) → Gates → Command → Sizes → Settlement → List ℕ → Type 0
Prints told gates (Play play) sizes settled text = PrintsReport told gates (Play play) sizes settled text
Prints told gates (Drill drill) sizes settled text = PrintsReport told gates (Drill drill) sizes settled text
Prints told gates (Store store) sizes settled text = PrintsReplies told gates (Store store) sizes settled text

-- the words were accepted and the run ended at a file, the last that was opened; the fact may speak of the first bad line in the language
-- of the command's files
pub record EndsAtFile (meaning : Option Command) (before after : Outside) (file : ℕ)
    (Fact : (List ℕ → Option ℕ) → ℕ → List ℕ → Type 0) : Type 0 where
  pub command : Command
  pub sizes : Sizes
  pub accepted : IsAccepted meaning command sizes
  pub stops : StopsAt (bad_line_of command) before.told (files_of command) file (Fact (bad_line_of command))
  pub opened : HasOpened before after file
  pub unwritten : IsUnwritten before after

-- the words were accepted, and what they ask for gives this history, of whose calls the gates were told, and prints this text
pub record GivesText (meaning : Option Command) (told : List ℕ → Option (List ℕ)) (gates : Gates) (settled : Settlement) (text : List ℕ)
    : Type 0 where
  pub command : Command
  pub sizes : Sizes
  pub accepted : IsAccepted meaning command sizes
  pub prints : Prints told gates command sizes settled text

-- all files were opened, all scripts played, and the pool closed with this history; this was done with the text
pub record EndsPlayed (meaning : Option Command) (before after : Outside) (gates : Gates) (closed : Option Settlement)
    (IsWritten : List ℕ → Type 0) : Type 0 where
  pub settled : Settlement
  pub is_closed : closed ≡ Some settled
  pub text : List ℕ
  pub gives : GivesText meaning before.told gates settled text
  pub opened : HasOpened before after (length (files_of gives.command))
  pub written : IsWritten text

-- the words ask for a pool whose numbers have this fault and none before it
pub record EndsAtShape (meaning : Option Command) (fault : ShapeFault) : Type 0 where
  pub command : Command
  pub meant : meaning ≡ Some command
  pub first : IsFirstFault (processes_of command) (batches_of command) (words_of command) (quantum_of command) fault

-- When a run ends before its pool is closed. Where the bytes of the files up to an unread one are told, the files weren't reliable.
-- Want of memory may come at any time before the playing.
abbrev pub EarlyCause : Option Command → Outside → Outside → Ending → Type 0
EarlyCause meaning before after Done = ⊥
EarlyCause meaning before after Words = (meaning ≡ None) × IsUntouched before after
EarlyCause meaning before after (Shape fault) = EndsAtShape meaning fault × IsUntouched before after
EarlyCause meaning before after (Read file) =
    EndsAtFile meaning before after file (λ _ _ _. ¬ before.reliable) × HasRisen before.file_faults after.file_faults
EarlyCause meaning before after (Long file) = EndsAtFile meaning before after file (λ _ others bytes. ¬ IsWithin others bytes)
EarlyCause meaning before after (Line file line) =
    EndsAtFile meaning before after file (λ bad others bytes. IsWithin others bytes × (bad bytes ≡ Some line))
EarlyCause meaning before after Write = ⊥
EarlyCause meaning before after Memory = IsUnwritten before after

-- When each ending comes, and what the pool was closed with. An output that failed wasn't sure to take the text. Where the run ended before
-- its playing, no gate was told of anything.
abbrev pub CauseOf : Option Command → Outside → Outside → Gates → Option Settlement → Ending → Type 0
CauseOf meaning before after gates closed Done = EndsPlayed meaning before after gates closed (GrowsBy before.out after.out)
CauseOf meaning before after gates closed Write =
    EndsPlayed meaning before after gates closed (λ text. GrowsByPart before.out after.out text × ¬ TakesText before text)
    × HasRisen before.out_faults after.out_faults
CauseOf meaning before after gates closed ending =
    EarlyCause meaning before after ending × (closed ≡ None) × (gates.now ≡ gates.before)

-- the line of the ending was written to this sink, or a part of it where the sink failed
abbrev pub IsTold : {K : Type 0} → Ghosts K → K → K → Ending → Type 0
IsTold sink before after ending = (result : Result (Unit {0}) Failed) × Writes sink (line_of (codes "pooltrace") ending) before after result

-- a run with this status and this history: it had cause to end so, and was told so
pub record Ends (meaning : Option Command) (before after : Outside) (gates : Gates) (closed : Option Settlement)
    (Told : Ending → Type 0) (status : ℕ) : Type 0 where
  pub ending : Ending
  pub cause : CauseOf meaning before after gates closed ending
  pub line : Told ending
  pub answered : status ≡ status_of ending

-- the words are accepted, and all files are told and fine
pub record IsPlayable (meaning : Option Command) (told : List ℕ → Option (List ℕ)) : Type 0 where
  pub command : Command
  pub sizes : Sizes
  pub accepted : IsAccepted meaning command sizes
  pub content : ℕ → List ℕ
  pub hold : Hold told (files_of command) content (length (files_of command))
  pub fine : FilesAreFine command content

-- besides, neither the files nor the output failed in the run
pub record IsUnhindered (meaning : Option Command) (before after : Outside) : Type 0 where
  pub playable : IsPlayable meaning before.told
  pub read : ¬ HasRisen before.file_faults after.file_faults
  pub written : ¬ HasRisen before.out_faults after.out_faults

-- besides, before the run the files are reliable, and the output is sure to take whatever text playing may give
pub record IsSure (meaning : Option Command) (before : Outside) : Type 0 where
  pub playable : IsPlayable meaning before.told
  pub reliable : before.reliable
  pub roomy : (gates : Gates) (settled : Settlement) (text : List ℕ) → GivesText meaning before.told gates settled text
      → TakesText before text

-- the text is the report of scripts for which there are enough blocks
pub record IsAmpleReport (command : Command) (sizes : Sizes) (content : ℕ → List ℕ) (text : List ℕ) : Type 0 where
  pub scripts : List Script
  pub enough : HasEnoughBlocks command sizes content scripts
  pub is : text ≡ report (tallies_without_refusals scripts)

-- the text is the replies to scripts for which there are enough blocks
pub record AreAmpleReplies (command : Command) (sizes : Sizes) (content : ℕ → List ℕ) (text : List ℕ) : Type 0 where
  pub scripts : List StoreScript
  pub enough : HasEnoughForStores command sizes content scripts
  pub is : text ≡ replies (answers_without_refusals scripts)

-- there are enough blocks for the scripts of a command, and this text follows from them alone
abbrev pub IsAmpleText : Command → Sizes → (ℕ → List ℕ) → List ℕ → Type 0
IsAmpleText (Play play) sizes content text = IsAmpleReport (Play play) sizes content text
IsAmpleText (Drill drill) sizes content text = IsAmpleReport (Drill drill) sizes content text
IsAmpleText (Store store) sizes content text = AreAmpleReplies (Store store) sizes content text

-- the words are accepted, all files are told, and there are so many blocks that this text follows from the files alone
pub record IsAmple (meaning : Option Command) (told : List ℕ → Option (List ℕ)) (text : List ℕ) : Type 0 where
  pub command : Command
  pub sizes : Sizes
  pub accepted : IsAccepted meaning command sizes
  pub content : ℕ → List ℕ
  pub hold : Hold told (files_of command) content (length (files_of command))
  pub ample : IsAmpleText command sizes content text
