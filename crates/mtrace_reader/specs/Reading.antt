-- What the bytes of a trace say.
use Rattle.std.specs.Prelude.{◌≡◌, ℕ, Bool, List, length, map, Option, None, Result}
use Rattle.line_text.specs.Answers as text
use Rattle.line_text.specs.Lines.{pieces, lines, last_piece}
use Rattle.line_text.specs.Meanings.{said, first_bad, is_bad}
use Rattle.line_text.specs.declared.fault.TextFault.{TextFault}
use Rattle.mtrace_reader.specs.Line.{meaning_of}
use Rattle.mtrace_reader.specs.declared.trace.Operation.{Operation}
use Rattle.mtrace_reader.specs.declared.trace.Trace.{Trace}

-- the number of the first bad line, counted from 1. The last piece is never a bad line.
abbrev pub bad_line : List ℕ → Option ℕ
bad_line bytes = first_bad 1 (map meaning_of (lines bytes))

-- the operations of the lines, and that of the last piece where it says one by itself
abbrev pub operations_of : List ℕ → List Operation
operations_of bytes = said (map meaning_of (pieces bytes))

-- the trace ends within a line that means nothing by itself
abbrev pub is_cut : List ℕ → Bool
is_cut bytes = is_bad (meaning_of (last_piece bytes))

-- these bytes are read as this trace
pub record IsReading (bytes : List ℕ) (trace : Trace) : Type 0 where
  pub good : bad_line bytes ≡ None
  pub operations : trace.operations ≡ operations_of bytes
  pub cut : trace.cut ≡ is_cut bytes
  pub whole : trace.bytes ≡ length bytes

-- each answer to bytes that were read
abbrev pub AnswersTo : List ℕ → Result Trace TextFault → Type 0
AnswersTo bytes result = text.AnswersTo IsReading bad_line bytes result

-- each answer to a source that has these bytes left, of which so many may be read
abbrev pub AnswersFor : ℕ → List ℕ → Result Trace TextFault → Type 0
AnswersFor limit bytes result = text.AnswersFor IsReading bad_line limit bytes result
