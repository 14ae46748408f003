-- What is answered to a text, by what its bytes are read as and by the number of its first bad line.
use Rattle.std.specs.Prelude.{◌≡◌, ℕ, ◌<◌, ◌≤◌, List, length, Option, Some, Result, Ok, Err}
use Rattle.line_text.specs.declared.fault.TextFault.{TextFault}
use Rattle.line_text.specs.declared.fault.TextFault.TheVariants.{ReadFault, TooLong, BadLine, NoMemory}

-- each answer to bytes that were read, and where it comes. Want of memory may come at any bytes.
abbrev pub AnswersTo : {T : Type 0} → (List ℕ → T → Type 0) → (List ℕ → Option ℕ) → List ℕ → Result T TextFault → Type 0
AnswersTo IsReading bad_line bytes (Ok read) = IsReading bytes read
AnswersTo IsReading bad_line bytes (Err (BadLine number)) = bad_line bytes ≡ Some number
AnswersTo IsReading bad_line bytes (Err NoMemory) = Unit {0}
AnswersTo IsReading bad_line bytes (Err TooLong) = ⊥
AnswersTo IsReading bad_line bytes (Err ReadFault) = ⊥

-- Each answer to a source that has these bytes left, of which so many may be read, and where it comes.
-- Want of memory and a fault of the source may come at any bytes.
abbrev pub AnswersFor : {T : Type 0} → (List ℕ → T → Type 0) → (List ℕ → Option ℕ) → ℕ → List ℕ → Result T TextFault → Type 0
AnswersFor IsReading bad_line limit bytes (Ok read) = (length bytes ≤ limit) × IsReading bytes read
AnswersFor IsReading bad_line limit bytes (Err TooLong) = limit < length bytes
AnswersFor IsReading bad_line limit bytes (Err (BadLine number)) = (length bytes ≤ limit) × (bad_line bytes ≡ Some number)
AnswersFor IsReading bad_line limit bytes (Err ReadFault) = Unit {0}
AnswersFor IsReading bad_line limit bytes (Err NoMemory) = Unit {0}
