-- What is known of a script that is being written.
use Rattle.std.specs.Prelude.{◌≡◌, ℕ, true, List, [], ◌∷◌, ◌++◌, map, All}
use Rattle.store_script.specs.Script.{request_of, keys_of, HasSlotIn, HasIndex, HasIndexOf}
use Rattle.line_text.specs.Meanings.{said, first_bad, is_bad}
use Rattle.store_script.specs.Reading.{meanings, bad_line}
use Rattle.store_script.specs.Slots.{Names}
use Rattle.line_text.specs.declared.meaning.Meaning.{Meaning}
use Rattle.store_script.specs.declared.line.Request.{Request}
use Rattle.line_text.specs.declared.fault.TextFault.{TextFault}
use Rattle.line_text.specs.declared.fault.TextFault.TheVariants.{ReadFault, TooLong, BadLine, NoMemory}
use Rattle.store_script.specs.declared.reading.ScriptWriter.{ScriptWriter}

-- the commands are these requests, each with the slot of its key, and the table has the keys
pub record IsAt (writer : ScriptWriter) (requests : List Request) : Type 0 where
  pub commands : map request_of writer.commands.items ≡ requests
  pub names : Names writer.slots (keys_of writer.commands.items)
  pub each : All (HasSlotIn (keys_of writer.commands.items)) writer.commands.items
  pub indices : All HasIndex writer.commands.items

-- a writer keeps this request behind all that it had, where its index is below 4
abbrev pub Keeps : ScriptWriter → ScriptWriter → Request → Type 0
Keeps before after request = HasIndexOf request → (requests : List Request) → IsAt before requests → IsAt after (requests ++ request ∷ [])

-- a writer keeps what a line of this meaning asks for
abbrev pub ReadsLine : ScriptWriter → ScriptWriter → Meaning Request → Type 0
ReadsLine before after meaning = (requests : List Request) → IsAt before requests → IsAt after (requests ++ said (meaning ∷ []))

-- where a line of this number and this meaning stops the reading
abbrev pub StopsAt : ℕ → Meaning Request → TextFault → Type 0
StopsAt number meaning (BadLine line) = (line ≡ number) × (is_bad meaning ≡ true)
StopsAt number meaning NoMemory = Unit {0}
StopsAt number meaning ReadFault = ⊥
StopsAt number meaning TooLong = ⊥

-- The lines of these bytes before the rest are read, and good: the writer has what they ask for, and the next line has this number.
pub record HasRead (bytes rest : List ℕ) (number : ℕ) (writer : ScriptWriter) : Type 0 where
  pub so_far : List Request
  pub at : IsAt writer so_far
  pub others : so_far ++ said (meanings rest) ≡ said (meanings bytes)
  pub good : first_bad number (meanings rest) ≡ bad_line bytes
