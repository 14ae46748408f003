-- How a run ends: its status, and its line on the error sink.
use Rattle.std.specs.Prelude.{ℕ, Result, Ok, Err, List, [], ◌++◌, codes, decimal}
use Rattle.command_words.specs.declared.fault.WordsFault.{WordsFault}
use Rattle.command_words.specs.declared.fault.WordsFault.TheVariants.{Faulty, NoMemory}
use Rattle.word_layout.specs.Faults.{number_of}
use Rattle.pool_io.specs.declared.files.Failed.{Failed}
use Rattle.file_runs.specs.declared.ending.Ending.{Ending}
use Rattle.file_runs.specs.declared.ending.Ending.TheVariants.{Done, Words, Shape, Read, Long, Line, Write, Memory}

-- the status of an ending
abbrev pub status_of : Ending → ℕ
status_of Done = 0
status_of Words = 2
status_of (Shape fault) = 3
status_of (Read file) = 4
status_of (Long file) = 5
status_of (Line file line) = 6
status_of Write = 7
status_of Memory = 8

-- the beginning of the text of an ending of this program at a file
abbrev pub file_text : List ℕ → ℕ → List ℕ
file_text program file = program ++ codes ": file " ++ decimal file

-- the text of an ending on the error sink
abbrev pub line_of : List ℕ → Ending → List ℕ
line_of program Done = []
line_of program Words = program ++ codes ": words\n"
line_of program (Shape fault) = program ++ codes ": shape " ++ decimal (number_of fault) ++ codes "\n"
line_of program (Read file) = file_text program file ++ codes " read\n"
line_of program (Long file) = file_text program file ++ codes " long\n"
line_of program (Line file line) = file_text program file ++ codes " line " ++ decimal line ++ codes "\n"
line_of program Write = program ++ codes ": write\n"
line_of program Memory = program ++ codes ": memory\n"

-- the ending for a fault of the words
abbrev pub for_words : WordsFault → Ending
for_words Faulty = Words
for_words NoMemory = Memory

-- the ending of work whose text was written so
abbrev pub ending_after : Result (Unit {0}) Failed → Ending
ending_after (Ok done) = Done
ending_after (Err failed) = Write
