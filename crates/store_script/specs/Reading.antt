-- What the bytes of a store script say.
use Rattle.std.specs.Prelude.{◌≡◌, ℕ, List, length, map, Option, None, Result}
use Rattle.line_text.specs.Answers as text
use Rattle.line_text.specs.Lines.{pieces}
use Rattle.line_text.specs.Meanings.{said, first_bad}
use Rattle.line_text.specs.declared.fault.TextFault.{TextFault}
use Rattle.line_text.specs.declared.meaning.Meaning.{Meaning}
use Rattle.store_script.specs.Line.{meaning_of}
use Rattle.store_script.specs.Script.{request_of, IsWellFormed}
use Rattle.store_script.specs.declared.line.Request.{Request}
use Rattle.store_script.specs.declared.command.StoreScript.{StoreScript}

-- what the lines mean. The last piece, behind the last end of a line, is a line too: where it is empty it is skipped.
abbrev pub meanings : List ℕ → List (Meaning Request)
meanings bytes = map meaning_of (pieces bytes)

-- the number of the first line that isn't of the script language, counted from 1
abbrev pub bad_line : List ℕ → Option ℕ
bad_line bytes = first_bad 1 (meanings bytes)

-- these bytes are read as this script: its commands are what the lines say, in their order, each with the slot of its key
pub record IsReading (bytes : List ℕ) (script : StoreScript) : Type 0 where
  pub good : bad_line bytes ≡ None
  pub commands : map request_of script.commands ≡ said (meanings bytes)
  pub well_formed : IsWellFormed script
  pub whole : script.bytes ≡ length bytes

-- each answer to bytes that were read
abbrev pub AnswersTo : List ℕ → Result StoreScript TextFault → Type 0
AnswersTo bytes result = text.AnswersTo IsReading bad_line bytes result

-- each answer to a source that has these bytes left, of which so many may be read
abbrev pub AnswersFor : ℕ → List ℕ → Result StoreScript TextFault → Type 0
AnswersFor limit bytes result = text.AnswersFor IsReading bad_line limit bytes result
