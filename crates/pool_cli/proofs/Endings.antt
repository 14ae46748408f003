-- Why a run ends as it does.
use Rattle.std.proofs.Common.{◌≡◌, ℕ, ◌+◌, ◌-◌, ◌^◌, ◌<◌, ◌≤◌, ◌⊎◌, min, suc, List, [], ◌∷◌, length, refl, sym, ap, ◌∙◌, subst, inl, inr}
use Rattle.std.proofs.Common.{arith, map, Some, None}
use Rattle.std.specs.declared.alloc.Global.{Global}
use Rattle.std.specs.Prelude.{Vec, Bool, Option, Result, Ok, Err, IfOk, IfErr, OnErr, fold, slice_get}
use Rattle.std.proofs.lemmas.Bool.{cases_lt}
use Rattle.std.proofs.lemmas.Option.{get_or_from_slice_get, slice_get_within}
use Rattle.std.proofs.lemmas.List.FromFn.{get_or-map-range_with_len, length-map-range_with_len}
use Rattle.command_words.specs.declared.command.Command.{Command}
use Rattle.command_words.specs.declared.command.Command.TheVariants.{Play, Drill, Store}
use Rattle.command_words.specs.declared.command.Play.{Play as PlayWords}
use Rattle.command_words.specs.declared.command.Drill.{Drill as DrillWords}
use Rattle.command_words.specs.declared.command.Store.{Store as StoreWords}
use Rattle.word_layout.specs.declared.fault.ShapeFault.{ShapeFault}
use Rattle.word_layout.specs.declared.fault.ShapeFault.TheVariants.{NoProcess, ManyProcesses, FewBatches, BadQuantum, ManyBlocks, WideBlock}
use Rattle.word_layout.specs.Sizes.{Sizes, IsLength, limits_of, sizes}
use Rattle.word_layout.specs.Faults.{HasFault, IsFirstFault, rank}
use Rattle.word_layout.proofs.Lengths.{one_length}
use Rattle.word_layout.proofs.Refusals.{no_fault}
use Rattle.pool_model.proofs.Places.{slice_get_as_long}
use Rattle.block_pool.specs.Closing.{Settlement}
use Rattle.pool_io.specs.declared.files.Files as files_trait
use Rattle.pool_io.specs.declared.sink.Sink as sink_trait
use Rattle.pool_io.specs.declared.files.Failed.{Failed}
use Rattle.pool_io.specs.Told.{GrowsBy, GrowsByPart}
use Rattle.pool_io.specs.Writes.{Writes}
use Rattle.mtrace_reader.specs.declared.trace.Operation.{Operation}
use Rattle.line_text.specs.declared.fault.TextFault.{TextFault}
use Rattle.line_text.specs.declared.fault.TextFault.TheVariants.{ReadFault, TooLong, BadLine, NoMemory}
use Rattle.mtrace_reader.specs.declared.steps.Script.{Script}
use Rattle.mtrace_reader.specs.Reading as trace
use Rattle.mtrace_reader.specs.Reading.{is_cut, operations_of}
use Rattle.store_script.specs.declared.command.StoreScript.{StoreScript}
use Rattle.store_script.specs.Reading as store
use Rattle.mtrace_reader.specs.Script.{after, begun}
use Rattle.trace_player.specs.declared.tally.Tally.{Tally}
use Rattle.trace_player.specs.Plain.{tallies_without_refusals}
use Rattle.trace_player.specs.Report.{report}
use Rattle.pool_runs.specs.Drills.{drill_script, drill_scripts}
use Rattle.pool_runs.specs.Enough.{HasEnough}
use Rattle.pool_runs.specs.Settled.{IsSettledBy}
use Rattle.store_runs.specs.Enough as stores
use Rattle.store_runs.specs.Enough.{answers_without_refusals}
use Rattle.file_runs.specs.declared.ending.Ending.{Ending}
use Rattle.file_runs.specs.declared.ending.Ending.TheVariants.{Done, Words, Shape, Read, Long, Line, Write, Memory}
use Rattle.pool_cli.specs.Asked.{IsScriptFor, IsScriptOf, bad_line_of, batches_of, files_of, processes_of, quantum_of, words_of}
use Rattle.pool_cli.specs.declared.ending.Worked.{Worked}
use Rattle.pool_cli.specs.declared.scripts.Scripts.{Scripts}
use Rattle.pool_cli.specs.declared.scripts.Scripts.TheVariants.{Traces, Stores}
use Rattle.file_runs.specs.Ending.{ending_after, status_of}
use Rattle.file_runs.specs.Reading.{Hold, IsWithin, ReadsAll, StopsReading, StopsWith, ending_for, taken}
use Rattle.pool_cli.specs.Ending.{ending_of, settled_of}
use Rattle.pool_cli.specs.Causes.{AreScriptsFor, CauseOf, Ends, EndsAtFile, EndsAtShape, EndsPlayed, FilesAreFine, GivesText}
use Rattle.pool_cli.specs.Causes.{IsAccepted, IsAmple, IsAmpleText, IsPlayable, IsPlayed, IsSure, IsUnhindered}
use Rattle.pool_cli.specs.Causes.{Prints, PrintsReport}
use Rattle.file_runs.specs.Outside.{Outside, TakesText, outside}
use Rattle.pool_cli.specs.Playing.{AreScriptsOf, Fit, IsTextOf}
use Rattle.pool_cli.specs.Printed.{AreRepliesOf, HasPrinted, IsReportOf}
use Rattle.pass_players.specs.Moments.{Moment}
use Rattle.pool_cli.specs.Gates.{Gates, gates_of}
use Rattle.pool_cli.specs.Replies.{replies}
use Rattle.pool_cli.specs.Shapes.{IsShapeOf}
use Rattle.pool_cli.proofs.StoreScripts.{one_store_script}

-- these are the scripts of traces that a command plays, and the files that it names are fine
record HasScripts (told : List ℕ → Option (List ℕ)) (command : Command) (scripts : List Script) : Type 0 where
  one_each : length scripts ≡ processes_of command
  fine : (content : ℕ → List ℕ) → Hold told (files_of command) content (length (files_of command)) → FilesAreFine command content
  are : (content : ℕ → List ℕ) → Hold told (files_of command) content (length (files_of command))
      → AreScriptsFor command content scripts

-- a fault with no more processes than are counted is the fault for all files
pub fault_for_all : (n batches words quantum : ℕ) (fault : ShapeFault) → IsFirstFault (min n (2 ^ 32 - 1)) batches words quantum fault
    → IsFirstFault n batches words quantum fault
fault_for_all n batches words quantum fault first = elim (cases_lt n (2 ^ 32)) [
  | inl lt ↦ subst (λ (m : ℕ). IsFirstFault m batches words quantum fault) (let same : min n (2 ^ 32 - 1) ≡ n = omega arith in same) first
  | inr ge ↦ many n batches words quantum fault ge first
]
  where
    none : (n batches words quantum : ℕ) (other : ShapeFault) → 2 ^ 32 ≤ n → rank other < 1 → HasFault n batches words quantum other → ⊥
    none n batches words quantum NoProcess ge lower has = omega (arith, has)
    none n batches words quantum ManyProcesses ge lower has = omega (arith, lower)
    none n batches words quantum FewBatches ge lower has = omega (arith, lower)
    none n batches words quantum BadQuantum ge lower has = omega (arith, lower)
    none n batches words quantum ManyBlocks ge lower has = omega (arith, lower)
    none n batches words quantum WideBlock ge lower has = omega (arith, lower)

    many : (n batches words quantum : ℕ) (fault : ShapeFault) → 2 ^ 32 ≤ n
        → IsFirstFault (min n (2 ^ 32 - 1)) batches words quantum fault → IsFirstFault n batches words quantum fault
    many n batches words quantum NoProcess ge first = absurd (let has : min n (2 ^ 32 - 1) ≡ 0 = first.has in omega arith)
    many n batches words quantum ManyProcesses ge first =
        record { has = omega arith; first = λ other lower has. none n batches words quantum other ge lower has }
    many n batches words quantum FewBatches ge first = absurd (first.first ManyProcesses (omega arith) (omega arith))
    many n batches words quantum BadQuantum ge first = absurd (first.first ManyProcesses (omega arith) (omega arith))
    many n batches words quantum ManyBlocks ge first = absurd (first.first ManyProcesses (omega arith) (omega arith))
    many n batches words quantum WideBlock ge first = absurd (first.first ManyProcesses (omega arith) (omega arith))

-- bytes have one script
one_script : (size : ℕ) (bytes : List ℕ) (one other : Script) → IsScriptOf size bytes one → IsScriptOf size bytes other → one ≡ other
one_script size bytes one other p q = by_bytes one p ∙ sym (by_bytes other q)
  where
    by_bytes : (script : Script) → IsScriptOf size bytes script
        → script ≡ (fold (after size) (begun (is_cut bytes)) (operations_of bytes)).script
    by_bytes script is =
        is.2 ∙ ap (λ (cut : Bool). (fold (after size) (begun cut) is.0.operations).script) is.1.cut
        ∙ ap (λ (operations : List Operation). (fold (after size) (begun (is_cut bytes)) operations).script) is.1.operations

-- a process has one script
one_script_for : (command : Command) (content : ℕ → List ℕ) (j : ℕ) (one other : Script) → IsScriptFor command content j one
    → IsScriptFor command content j other → one ≡ other
one_script_for (Play play) content j one other p q = one_script play.size (content j) one other p q
one_script_for (Drill drill) content j one other p q = p ∙ sym q
one_script_for (Store store) content j one other p q = absurd p

-- lists whose items have one fact each, which holds of one item alone, are the same
one_list : {T : Type 0} (Is : ℕ → T → Type 0) → ((j : ℕ) (one other : T) → Is j one → Is j other → one ≡ other)
    → (first : ℕ) (ones others : List T) → length ones ≡ length others
    → ((j : ℕ) (script : T) → slice_get ones j ≡ Some script → Is (first + j) script)
    → ((j : ℕ) (script : T) → slice_get others j ≡ Some script → Is (first + j) script) → ones ≡ others
one_list Is one first [] [] long p q = refl
one_list Is one first [] (other ∷ others) long p q = absurd (omega (arith, long))
one_list Is one first (script ∷ ones) [] long p q = absurd (omega (arith, long))
one_list Is one first (script ∷ ones) (other ∷ others) long p q =
    let head : script ≡ other = one (first + 0) script other (p 0 script refl) (q 0 other refl) in
    let next : (j : ℕ) → first + suc j ≡ first + 1 + j = λ j. omega arith in
    let tail : ones ≡ others = one_list Is one (first + 1) ones others (omega (arith, long))
    (λ j found at. subst (λ (n : ℕ). Is n found) (next j) (p (suc j) found at))
    (λ j found at. subst (λ (n : ℕ). Is n found) (next j) (q (suc j) found at)) in
    cc

-- the same, where the first item has the place 0
one_list_by_place : {T : Type 0} (Is : ℕ → T → Type 0) → ((j : ℕ) (one other : T) → Is j one → Is j other → one ≡ other)
    → (ones others : List T) → length ones ≡ length others
    → ((j : ℕ) (script : T) → slice_get ones j ≡ Some script → Is j script)
    → ((j : ℕ) (script : T) → slice_get others j ≡ Some script → Is j script) → ones ≡ others
one_list_by_place Is one ones others long p q =
    let none_first : (j : ℕ) → j ≡ 0 + j = λ j. omega arith in
    one_list Is one 0 ones others long (λ j script at. subst (λ (n : ℕ). Is n script) (none_first j) (p j script at))
    (λ j script at. subst (λ (n : ℕ). Is n script) (none_first j) (q j script at))

-- a command has one list of scripts
one_list_for : (command : Command) (content : ℕ → List ℕ) (ones others : List Script) → AreScriptsFor command content ones
    → AreScriptsFor command content others → ones ≡ others
one_list_for command content ones others p q =
    one_list_by_place (IsScriptFor command content) (one_script_for command content) ones others (p.one_each ∙ sym q.one_each) p.each q.each

-- all files were read and all scripts played
played_all : (told : List ℕ → Option (List ℕ)) (gates : Gates) (command : Command) (sizes : Sizes) (scripts : List Script)
    (settled : Settlement) (tallies : List Tally)
    → HasScripts told command scripts → IsSettledBy gates.before gates.now sizes scripts tallies settled
    → IsPlayed told gates command sizes settled tallies
played_all told gates command sizes scripts settled tallies has played = record {
  one_each = played.tallied.one_each ∙ has.one_each;
  run = played.run;
  fine = has.fine;
  played = λ content hold j tally at.
      let script = slice_get_as_long scripts tallies j tally played.tallied.one_each at in
      (script.0, (has.are content hold).each j script.0 script.1, played.tallied.each j script.0 tally script.1 at);
  unrefused = λ content hold others ample.
      let same : scripts ≡ others = one_list_for command content scripts others (has.are content hold) ample.are_scripts in
      played.unrefused (subst (HasEnough (limits_of sizes)) (sym same) ample.enough) ∙ ap tallies_without_refusals same;
}

-- the scripts of files that were read are those of a play
read_scripts : (told : List ℕ → Option (List ℕ)) (play : PlayWords) (scripts : List Script)
    → ReadsAll trace.bad_line (IsScriptOf play.size) told play.files scripts → HasScripts told (Play play) scripts
read_scripts told play scripts reads = record {
  one_each = reads.1.one_each;
  fine = reads.1.fine;
  are = λ content hold. record { traces = tt; one_each = reads.1.one_each; each = reads.1.read content hold };
}

-- a drill has a made script for each process
made_count : (drill : DrillWords) (scripts : List Script) → scripts ≡ drill_scripts drill.seed drill.calls drill.processes
    → length scripts ≡ drill.processes
made_count drill scripts is = ap length is ∙ length-map-range_with_len (drill_script drill.seed drill.calls) 0 drill.processes

-- and those that were made are those of a drill
made_scripts : (told : List ℕ → Option (List ℕ)) (drill : DrillWords) (scripts : List Script)
    → scripts ≡ drill_scripts drill.seed drill.calls drill.processes → HasScripts told (Drill drill) scripts
made_scripts told drill scripts is =
    let count : length scripts ≡ drill.processes = made_count drill scripts is in
    record {
      one_each = count;
      fine = λ content hold j low. absurd (omega (arith, low));
      are = λ content hold. record { traces = tt; one_each = count; each = made_at };
    }
  where
    made_at : (j : ℕ) (script : Script) → slice_get scripts j ≡ Some script → script ≡ drill_script drill.seed drill.calls j
    made_at j script at =
        let found : slice_get (drill_scripts drill.seed drill.calls drill.processes) j ≡ Some script =
        subst (λ (some : List Script). slice_get some j ≡ Some script) is at in
        let low = slice_get_within (drill_scripts drill.seed drill.calls drill.processes) j script found in
        sym (get_or_from_slice_get (drill_scripts drill.seed drill.calls drill.processes) j script script found)
        ∙ get_or-map-range_with_len (drill_script drill.seed drill.calls) 0 drill.processes j j script
        (omega (arith, low, length-map-range_with_len (drill_script drill.seed drill.calls) 0 drill.processes)) (omega arith)

-- over a pool that is closed with this history, a command prints the report of its scripts of traces
report_prints : (told : List ℕ → Option (List ℕ)) (gates : Gates) (command : Command) (sizes : Sizes) (scripts : List Script)
    → HasScripts told command scripts → (settled : Settlement) (text : List ℕ) → IsReportOf gates sizes scripts settled text
    → PrintsReport told gates command sizes settled text
report_prints told gates command sizes scripts has settled text is = record {
  tallies = is.0;
  played = played_all told gates command sizes scripts settled is.0 has is.1;
  is = is.2;
}

-- and a store the replies to the scripts of its files
store_prints : (told : List ℕ → Option (List ℕ)) (gates : Gates) (words : StoreWords) (sizes : Sizes) (scripts : List StoreScript)
    → ReadsAll store.bad_line store.IsReading told words.files scripts → (settled : Settlement) (text : List ℕ)
    → AreRepliesOf gates sizes scripts settled text → Prints told gates (Store words) sizes settled text
store_prints told gates words sizes scripts reads settled text is = record {
  lists = is.0;
  answered = record {
    scripts = scripts;
    one_each = reads.1.one_each;
    run = is.1.played;
    fine = reads.1.fine;
    said = reads.1.read;
    unrefused = λ content hold others ample.
        let same : scripts ≡ others =
        one_list_by_place (λ j. store.IsReading (content j)) (λ j. one_store_script (content j)) scripts others
        (reads.1.one_each ∙ sym ample.one_each) (reads.1.read content hold) ample.each in
        is.1.unrefused (subst (stores.HasEnough (limits_of sizes)) (sym same) ample.enough) ∙ ap answers_without_refusals same;
  };
  is = is.2;
}

-- each command prints what is printed of its scripts
pub scripts_print : (told : List ℕ → Option (List ℕ)) (gates : Gates) (command : Command) (sizes : Sizes) (scripts : Scripts)
    → AreScriptsOf told command scripts → (settled : Settlement) (text : List ℕ) → IsTextOf gates sizes scripts settled text
    → Prints told gates command sizes settled text
scripts_print told gates (Play play) sizes (Traces scripts) are =
    report_prints told gates (Play play) sizes scripts.items (read_scripts told play scripts.items are)
scripts_print told gates (Play play) sizes (Stores scripts) are = absurd are
scripts_print told gates (Drill drill) sizes (Traces scripts) are =
    report_prints told gates (Drill drill) sizes scripts.items (made_scripts told drill scripts.items are)
scripts_print told gates (Drill drill) sizes (Stores scripts) are = absurd are
scripts_print told gates (Store words) sizes (Traces scripts) are = absurd are
scripts_print told gates (Store words) sizes (Stores scripts) are = store_prints told gates words sizes scripts.items are

-- the scripts of a command fit the pool that it asks for
pub scripts_fit : (told : List ℕ → Option (List ℕ)) (command : Command) (sizes : Sizes) (scripts : Scripts)
    → AreScriptsOf told command scripts → IsShapeOf command sizes → Fit sizes scripts
scripts_fit told (Play play) sizes (Traces scripts) are asked = are.1.one_each ∙ sym asked.processes
scripts_fit told (Play play) sizes (Stores scripts) are asked = absurd are
scripts_fit told (Drill drill) sizes (Traces scripts) are asked = made_count drill scripts.items are ∙ sym asked.processes
scripts_fit told (Drill drill) sizes (Stores scripts) are asked = absurd are
scripts_fit told (Store words) sizes (Traces scripts) are asked = absurd are
scripts_fit told (Store words) sizes (Stores scripts) are asked =
    (are.1.one_each ∙ sym asked.processes, let four : sizes.words ≡ 4 = asked.words in omega arith)

-- work that played has printed the text of its history, as far as the output took it
pub has_printed : {K : Type 0} (sink : sink_trait.Ghosts K) (out out_now : K) (IsText : Settlement → List ℕ → Type 0) (worked : Worked)
    (settled : Settlement) (text : List ℕ) (written : Result (Unit {0}) Failed)
    → worked.settled ≡ Some settled → worked.ending ≡ ending_after written → IsText settled text → Writes sink text out out_now written
    → HasPrinted sink out out_now IsText worked
has_printed sink out out_now IsText worked settled text written is_closed ends is_text writes = record {
  settled = settled;
  is_closed = is_closed;
  text = text;
  is_text = is_text;
  written = written;
  writes = writes;
  ends = ends;
}

-- where work that failed left the gates, they were told of nothing
pub gates_stay : {G T E : Type 0} (told : G → List Moment) (old new : Vec G Global) (result : Result T E) → OnErr result (new ≡ old)
    → OnErr result ((gates_of told old.items new.items).now ≡ (gates_of told old.items new.items).before)
gates_stay told old new (Ok done) same = tt
gates_stay {G} told old new (Err failed) same = ap (λ (gates : Vec G Global). map told gates.items) same

-- a run that played, or for which memory was wanting before
pub ends_worked : {F S K : Type 0} (of_files : files_trait.Ghosts F S) (files files_now : F) (of_sink : sink_trait.Ghosts K)
    (out out_now : K) (gates : Gates) (meaning : Option Command) (command : Command) (sizes : Sizes) (IsText : Settlement → List ℕ → Type 0)
    (result : Result Worked Ending)
    → IsAccepted meaning command sizes → of_files.opens files_now ≡ of_files.opens files + length (files_of command)
    → ((settled : Settlement) (text : List ℕ) → IsText settled text → Prints (of_files.told files) gates command sizes settled text)
    → IfOk result (HasPrinted of_sink out out_now IsText) → IfErr result (λ ending. ending ≡ Memory) → OnErr result (out_now ≡ out)
    → OnErr result (gates.now ≡ gates.before)
    → CauseOf meaning (outside of_files files of_sink out) (outside of_files files_now of_sink out_now) gates
    (settled_of result) (ending_of result)
ends_worked of_files files files_now of_sink out out_now gates meaning command sizes IsText (Err ending) accepted opened prints ok early
    kept untold = rw (early, kept) (refl, refl, untold)
ends_worked of_files files files_now of_sink out out_now gates meaning command sizes IsText (Ok worked) accepted opened prints ok early
    kept untold =
    rw (ok.is_closed, ok.ends) (by_writing ok.written ok.writes)
  where
    before : Outside
    before = outside of_files files of_sink out

    after : Outside
    after = outside of_files files_now of_sink out_now

    played : (IsWritten : List ℕ → Type 0) → IsWritten ok.text → EndsPlayed meaning before after gates (Some ok.settled) IsWritten
    played IsWritten is = record {
      settled = ok.settled;
      is_closed = refl;
      text = ok.text;
      gives = record { command = command; sizes = sizes; accepted = accepted; prints = prints ok.settled ok.text ok.is_text };
      opened = opened;
      written = is;
    }

    by_writing : (written : Result (Unit {0}) Failed) → Writes of_sink ok.text out out_now written
        → CauseOf meaning before after gates (Some ok.settled) (ending_after written)
    by_writing (Ok done) writes = played (GrowsBy before.out after.out) writes.whole
    by_writing (Err failed) writes = (
      played (λ text. GrowsByPart before.out after.out text × ¬ TakesText before text)
          (writes.part, λ takes. let ok = (writes.sure takes.room takes.takes takes.fits).0 in cc),
      writes.failed,
    )

-- the run ends at a file
pub ends_at_file : {F S K : Type 0} (of_files : files_trait.Ghosts F S) (files files_now : F) (of_sink : sink_trait.Ghosts K) (out : K)
    (gates : Gates) (meaning : Option Command) (command : Command) (sizes : Sizes) (ending : Ending)
    → IsAccepted meaning command sizes → StopsReading of_files files files_now (bad_line_of command) (files_of command) ending
    → gates.now ≡ gates.before
    → CauseOf meaning (outside of_files files of_sink out) (outside of_files files_now of_sink out) gates None ending
ends_at_file of_files files files_now of_sink out gates meaning command sizes ending accepted stopped untold =
    subst (CauseOf meaning (outside of_files files of_sink out) (outside of_files files_now of_sink out) gates None) (sym stopped.is)
    (by_fault stopped.file stopped.fault stopped.opened stopped.stops)
  where
    by_fault : (file : ℕ) (fault : TextFault) → of_files.opens files_now ≡ of_files.opens files + file
        → StopsWith of_files files files_now (bad_line_of command) (files_of command) file fault
        → CauseOf meaning (outside of_files files of_sink out) (outside of_files files_now of_sink out) gates None (ending_for file fault)
    by_fault file ReadFault opened stops = (
      (record { command = command; sizes = sizes; accepted = accepted; stops = stops.0; opened = opened; unwritten = refl }, stops.1),
      refl,
      untold,
    )
    by_fault file TooLong opened stops =
        (record { command = command; sizes = sizes; accepted = accepted; stops = stops; opened = opened; unwritten = refl }, refl, untold)
    by_fault file (BadLine line) opened stops =
        (record { command = command; sizes = sizes; accepted = accepted; stops = stops; opened = opened; unwritten = refl }, refl, untold)
    by_fault file NoMemory opened stops = (refl, refl, untold)

-- contents of all files are contents of the first of them
hold_first : (told : List ℕ → Option (List ℕ)) (names : List (List ℕ)) (content : ℕ → List ℕ) (i n : ℕ) → i ≤ n
    → Hold told names content n → Hold told names content i
hold_first told names content i n le hold j name lt at = hold j name (omega arith) at

-- two commands that the same words mean are the same
same_command : (meaning : Option Command) (one other : Command) → meaning ≡ Some one → meaning ≡ Some other → one ≡ other
same_command meaning one other p q = let e : Some one ≡ Some other = sym p ∙ q in cc

-- of a file at which a run ended, what is so where all files are told and fine
at_told_file : (meaning : Option Command) (before after : Outside) (file : ℕ) (Fact : (List ℕ → Option ℕ) → ℕ → List ℕ → Type 0)
    → EndsAtFile meaning before after file Fact → IsPlayable meaning before.told
    → (bad : List ℕ → Option ℕ) × (others : ℕ) × (bytes : List ℕ) × Fact bad others bytes × IsWithin others bytes × (bad bytes ≡ None)
at_told_file meaning before after file Fact ends free =
    let same : ends.command ≡ free.command = same_command meaning ends.command free.command ends.accepted.meant free.accepted.meant in
    let names : length (files_of ends.command) ≡ length (files_of free.command) =
    ap (λ (command : Command). length (files_of command)) same in
    let hold : Hold before.told (files_of ends.command) free.content (ends.stops.index + 1) =
    hold_first before.told (files_of ends.command) free.content (ends.stops.index + 1) (length (files_of free.command))
    (omega (arith, ends.stops.within, names))
    (subst (λ (command : Command). Hold before.told (files_of command) free.content (length (files_of free.command))) (sym same)
    free.hold) in
    let fine : IsWithin (taken free.content ends.stops.index) (free.content ends.stops.index)
    × (bad_line_of ends.command (free.content ends.stops.index) ≡ None) =
    subst (λ (command : Command). IsWithin (taken free.content ends.stops.index) (free.content ends.stops.index)
    × (bad_line_of command (free.content ends.stops.index) ≡ None)) (sym same)
    (free.fine ends.stops.index (omega (arith, ends.stops.within, names))) in
    let others = taken free.content ends.stops.index in
    (bad_line_of ends.command, others, free.content ends.stops.index, ends.stops.here free.content hold, fine.0, fine.1)

-- the numbers of a shape have no fault
at_good_shape : (meaning : Option Command) (told : List ℕ → Option (List ℕ)) (fault : ShapeFault) → EndsAtShape meaning fault
    → IsPlayable meaning told → ⊥
at_good_shape meaning told fault ends free =
    let same : ends.command ≡ free.command = same_command meaning ends.command free.command ends.meant free.accepted.meant in
    let first : IsFirstFault (processes_of free.command) (batches_of free.command) (words_of free.command) (quantum_of free.command) fault =
    subst (λ (command : Command). IsFirstFault (processes_of command) (batches_of command) (words_of command) (quantum_of command) fault)
    same ends.first in
    let asked = free.accepted.asked in
    no_fault free.sizes fault asked.shape
    (rw (asked.processes, asked.batches, asked.words, asked.quantum) first.has)

-- where all files are told and fine, a run ends well or for want of memory, or the outside failed it
ends_well_unless : (meaning : Option Command) (before after : Outside) (gates : Gates) (closed : Option Settlement) (ending : Ending)
    (status : ℕ)
    → status ≡ status_of ending → CauseOf meaning before after gates closed ending
    → IsPlayable meaning before.told → ((file : ℕ) → CauseOf meaning before after gates closed (Read file) → ⊥)
    → (CauseOf meaning before after gates closed Write → ⊥) → (status ≡ 0) ⊎ (status ≡ 8)
ends_well_unless meaning before after gates closed Done status is cause free reads writes = inl is
ends_well_unless meaning before after gates closed Words status is cause free reads writes =
    absurd (let e : None ≡ Some free.command = sym cause.0.0 ∙ free.accepted.meant in cc)
ends_well_unless meaning before after gates closed (Shape fault) status is cause free reads writes =
    absurd (at_good_shape meaning before.told fault cause.0.0 free)
ends_well_unless meaning before after gates closed (Read file) status is cause free reads writes = absurd (reads file cause)
ends_well_unless meaning before after gates closed (Long file) status is cause free reads writes =
    let fine = at_told_file meaning before after file (λ _ others bytes. ¬ IsWithin others bytes) cause.0 free in absurd (fine.3 fine.4)
ends_well_unless meaning before after gates closed (Line file line) status is cause free reads writes =
    let fine = at_told_file meaning before after file (λ bad others bytes. IsWithin others bytes × (bad bytes ≡ Some line)) cause.0 free in
    absurd (let e : None ≡ Some line = sym fine.5 ∙ fine.3.1 in cc)
ends_well_unless meaning before after gates closed Write status is cause free reads writes = absurd (writes cause)
ends_well_unless meaning before after gates closed Memory status is cause free reads writes = inr is

-- two shapes that a command asks for are the same
same_sizes : (command : Command) (one other : Sizes) → IsShapeOf command one → IsShapeOf command other → one ≡ other
same_sizes command one other p q =
    let processes : other.processes ≡ one.processes = q.processes ∙ sym p.processes in
    let quantum : other.quantum ≡ one.quantum = q.quantum ∙ sym p.quantum in
    let batches : one.batches ≡ other.batches = p.batches ∙ sym q.batches in
    let words : one.words ≡ other.words = p.words ∙ sym q.words in
    let length_of_other : IsLength one.processes one.quantum other.length =
    subst (λ (n : ℕ). IsLength n one.quantum other.length) processes
    (subst (λ (n : ℕ). IsLength other.processes n other.length) quantum q.shape.least_length) in
    let long : one.length ≡ other.length =
    one_length one.processes one.quantum one.length other.length p.shape.least_length length_of_other in
    let each : sizes one.processes one.batches one.words one.quantum one.length
    ≡ sizes other.processes other.batches other.words other.quantum other.length = cc in
    each

-- where there are enough blocks a command prints the text that follows from its scripts alone
ample_prints : (told : List ℕ → Option (List ℕ)) (gates : Gates) (command : Command) (sizes : Sizes) (settled : Settlement)
    (text other : List ℕ) (content : ℕ → List ℕ)
    → Prints told gates command sizes settled text → Hold told (files_of command) content (length (files_of command))
    → IsAmpleText command sizes content other → text ≡ other
ample_prints told gates (Play play) sizes settled text other content prints hold ample =
    prints.is ∙ ap report (prints.played.unrefused content hold ample.scripts ample.enough) ∙ sym ample.is
ample_prints told gates (Drill drill) sizes settled text other content prints hold ample =
    prints.is ∙ ap report (prints.played.unrefused content hold ample.scripts ample.enough) ∙ sym ample.is
ample_prints told gates (Store words) sizes settled text other content prints hold ample =
    prints.is ∙ ap replies (prints.answered.unrefused content hold ample.scripts ample.enough) ∙ sym ample.is

-- and so does a run
ample_text : (meaning : Option Command) (told : List ℕ → Option (List ℕ)) (gates : Gates) (settled : Settlement) (text other : List ℕ)
    → GivesText meaning told gates settled text → IsAmple meaning told other → text ≡ other
ample_text meaning told gates settled text other gives ample =
    let same : ample.command ≡ gives.command = same_command meaning ample.command gives.command ample.accepted.meant gives.accepted.meant in
    let asked : IsShapeOf gives.command ample.sizes =
    subst (λ (command : Command). IsShapeOf command ample.sizes) same ample.accepted.asked in
    let hold : Hold told (files_of gives.command) ample.content (length (files_of gives.command))
    = subst (λ (command : Command). Hold told (files_of command) ample.content (length (files_of command))) same ample.hold in
    let follows : IsAmpleText gives.command ample.sizes ample.content other
    = subst (λ (command : Command). IsAmpleText command ample.sizes ample.content other) same ample.ample in
    ample_prints told gates gives.command gives.sizes settled text other ample.content gives.prints hold
    (subst (λ (sizes : Sizes). IsAmpleText gives.command sizes ample.content other)
    (same_sizes gives.command ample.sizes gives.sizes asked gives.accepted.asked) follows)

-- the text of a run that ended well
text_when_done : (meaning : Option Command) (before after : Outside) (gates : Gates) (closed : Option Settlement) (ending : Ending)
    (status : ℕ)
    → status ≡ status_of ending → CauseOf meaning before after gates closed ending
    → status ≡ 0 → EndsPlayed meaning before after gates closed (GrowsBy before.out after.out)
text_when_done meaning before after gates closed Done status is cause well = cause
text_when_done meaning before after gates closed Words status is cause well = absurd (omega (arith, is, well))
text_when_done meaning before after gates closed (Shape fault) status is cause well = absurd (omega (arith, is, well))
text_when_done meaning before after gates closed (Read file) status is cause well = absurd (omega (arith, is, well))
text_when_done meaning before after gates closed (Long file) status is cause well = absurd (omega (arith, is, well))
text_when_done meaning before after gates closed (Line file line) status is cause well = absurd (omega (arith, is, well))
text_when_done meaning before after gates closed Write status is cause well = absurd (omega (arith, is, well))
text_when_done meaning before after gates closed Memory status is cause well = absurd (omega (arith, is, well))

module _ (meaning : Option Command) (before after : Outside) (gates : Gates) (closed : Option Settlement) (Told : Ending → Type 0)
    (status : ℕ) (ends : Ends meaning before after gates closed Told status) where
  -- where nothing hinders a run, it ends well or for want of memory
  pub unhindered : IsUnhindered meaning before after → (status ≡ 0) ⊎ (status ≡ 8)
  unhindered free =
      ends_well_unless meaning before after gates closed ends.ending status ends.answered ends.cause free.playable
      (λ file read. free.read read.0.1) (λ write. free.written write.1)

  -- where nothing can hinder a run, it ends well or for want of memory
  pub sure : IsSure meaning before → (status ≡ 0) ⊎ (status ≡ 8)
  sure free =
      ends_well_unless meaning before after gates closed ends.ending status ends.answered ends.cause free.playable
      (λ file read. let at = at_told_file meaning before after file (λ _ _ _. ¬ before.reliable) read.0.0 free.playable in
      at.3 free.reliable)
      (λ write. write.0.written.1 (free.roomy gates write.0.settled write.0.text write.0.gives))

  -- with enough blocks the text follows from the files alone
  pub enough : (text : List ℕ) → IsAmple meaning before.told text → status ≡ 0 → GrowsBy before.out after.out text
  enough text ample well =
      let done = text_when_done meaning before after gates closed ends.ending status ends.answered ends.cause well in
      subst (λ text. GrowsBy before.out after.out text)
      (ample_text meaning before.told gates done.settled done.text text done.gives ample) done.written
