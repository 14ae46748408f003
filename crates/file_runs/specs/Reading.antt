-- Files as they are read, in turn.
use Rattle.std.specs.Prelude.{◌≡◌, ℕ, ◌+◌, ◌^◌, ◌<◌, ◌≤◌, zero, suc, min, Some, None, Result, Ok, Err, Option, List, length, slice_get}
use Rattle.line_text.specs.declared.fault.TextFault.{TextFault}
use Rattle.line_text.specs.declared.fault.TextFault.TheVariants.{ReadFault, TooLong, BadLine, NoMemory}
use Rattle.file_runs.specs.declared.reading.ReadFile.{ReadFile}
use Rattle.pool_io.specs.declared.files.Files.{Ghosts}
use Rattle.pool_io.specs.Counts.{HasRisen}
use Rattle.file_runs.specs.declared.ending.Ending.{Ending}
use Rattle.file_runs.specs.declared.ending.Ending.TheVariants.{Read, Long, Line, Memory}

-- the first so many names are told to hold these contents
abbrev pub Hold : (List ℕ → Option (List ℕ)) → List (List ℕ) → (ℕ → List ℕ) → ℕ → Type 0
Hold told names content count = (j : ℕ) (name : List ℕ) → j < count → slice_get names j ≡ Some name → told name ≡ Some (content j)

-- how many bytes the first so many files have
abbrev pub taken : (ℕ → List ℕ) → ℕ → ℕ
taken content zero = 0
taken content (suc count) = taken content count + length (content count)

-- the file may be read whole, after so many bytes of other files
abbrev pub IsWithin : ℕ → List ℕ → Type 0
IsWithin before bytes = (length bytes ≤ 2 ^ 24) × (before + length bytes ≤ 2 ^ 26)

-- the first so many files may be read whole and have no bad line, in a language by which bytes have this first bad line
abbrev pub AreFine : (List ℕ → Option ℕ) → (ℕ → List ℕ) → ℕ → Type 0
AreFine bad content count = (j : ℕ) → j < count → IsWithin (taken content j) (content j) × (bad (content j) ≡ None)

-- the run ended at a file, which has this fact after so many bytes of the files before it, which are fine
pub record StopsAt (bad : List ℕ → Option ℕ) (told : List ℕ → Option (List ℕ)) (names : List (List ℕ)) (file : ℕ)
    (Fact : ℕ → List ℕ → Type 0) : Type 0 where
  pub index : ℕ
  pub number : file ≡ index + 1
  pub within : index < length names
  pub earlier : (content : ℕ → List ℕ) → Hold told names content index → AreFine bad content index
  pub here : (content : ℕ → List ℕ) → Hold told names content (index + 1) → Fact (taken content index) (content index)

-- each answer to a file with these bytes, of which so many may be read, by whether the files are reliable; of a language by which the bytes
-- have this first bad line, and say this
abbrev pub FileAnswers : {T : Type 0} → (List ℕ → Option ℕ) → (List ℕ → T → Type 0) → Type 0 → ℕ → List ℕ
    → Result (ReadFile T) TextFault → Type 0
FileAnswers bad Says Reliable room bytes (Ok file) =
    (length bytes ≤ min room (2 ^ 24)) × (bad bytes ≡ None) × Says bytes file.said × (file.bytes ≡ length bytes)
FileAnswers bad Says Reliable room bytes (Err TooLong) = min room (2 ^ 24) < length bytes
FileAnswers bad Says Reliable room bytes (Err (BadLine number)) = (length bytes ≤ min room (2 ^ 24)) × (bad bytes ≡ Some number)
FileAnswers bad Says Reliable room bytes (Err ReadFault) = ¬ Reliable
FileAnswers bad Says Reliable room bytes (Err NoMemory) = Unit {0}

-- the first so many files were read, `total` bytes in all: they are fine, and say this
pub record ReadsFirst {T : Type 0} (bad : List ℕ → Option ℕ) (Says : List ℕ → T → Type 0) (told : List ℕ → Option (List ℕ))
    (names : List (List ℕ)) (count total : ℕ) (said : List T) : Type 0 where
  pub one_each : length said ≡ count
  pub few : total ≤ 2 ^ 26
  pub all_bytes : (content : ℕ → List ℕ) → Hold told names content count → total ≡ taken content count
  pub fine : (content : ℕ → List ℕ) → Hold told names content count → AreFine bad content count
  pub read : (content : ℕ → List ℕ) → Hold told names content count
      → (j : ℕ) (one : T) → slice_get said j ≡ Some one → Says (content j) one

-- all files were read
abbrev pub ReadsAll : {T : Type 0} → (List ℕ → Option ℕ) → (List ℕ → T → Type 0) → (List ℕ → Option (List ℕ)) → List (List ℕ)
    → List T → Type 0
ReadsAll bad Says told names said = (total : ℕ) × ReadsFirst bad Says told names (length names) total said

-- what a fault at this file shows, of files as they were before the reading and are after it
abbrev pub StopsWith : {F S : Type 0} → Ghosts F S → F → F → (List ℕ → Option ℕ) → List (List ℕ) → ℕ → TextFault → Type 0
StopsWith of before after bad names file ReadFault =
    StopsAt bad (of.told before) names file (λ _ _. ¬ of.reliable before) × HasRisen (of.faults before) (of.faults after)
StopsWith of before after bad names file TooLong =
    StopsAt bad (of.told before) names file (λ others bytes. ¬ IsWithin others bytes)
StopsWith of before after bad names file (BadLine line) =
    StopsAt bad (of.told before) names file (λ others bytes. IsWithin others bytes × (bad bytes ≡ Some line))
StopsWith of before after bad names file NoMemory = Unit {0}

-- the ending for a fault at a file
abbrev pub ending_for : ℕ → TextFault → Ending
ending_for file ReadFault = Read file
ending_for file TooLong = Long file
ending_for file (BadLine line) = Line file line
ending_for file NoMemory = Memory

-- the reading of files ended so, at this file
pub record StopsReading {F S : Type 0} (of : Ghosts F S) (before after : F) (bad : List ℕ → Option ℕ) (names : List (List ℕ))
    (ending : Ending) : Type 0 where
  pub file : ℕ
  pub fault : TextFault
  pub is : ending ≡ ending_for file fault
  pub opened : of.opens after ≡ of.opens before + file
  pub stops : StopsWith of before after bad names file fault
