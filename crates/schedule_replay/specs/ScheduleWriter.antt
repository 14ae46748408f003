-- What is known of a schedule that is being written.
use Rattle.std.specs.Prelude.{◌≡◌, ℕ, true, false, List, []}
use Rattle.line_text.specs.declared.fault.TextFault.{TextFault}
use Rattle.line_text.specs.declared.fault.TextFault.TheVariants.{ReadFault, TooLong, BadLine, NoMemory}
use Rattle.line_text.specs.declared.meaning.Meaning.{Meaning}
use Rattle.schedule_replay.specs.Reading.{SaidSoFar, after, all_from, bad_from, bad_line, breaks, events_in, meanings, said_in}
use Rattle.schedule_replay.specs.declared.line.Said.{Said}
use Rattle.schedule_replay.specs.declared.reading.ScheduleWriter.{ScheduleWriter}

-- what the lines said that a writer has
abbrev pub has_read : ScheduleWriter → SaidSoFar
has_read writer = record { shape = writer.shape; lines = writer.lines.items; events = writer.events }

-- a writer has one more line, which has this number and isn't bad
pub record Adds (number : ℕ) (meaning : Meaning Said) (before now : ScheduleWriter) : Type 0 where
  pub good : breaks (has_read before) meaning ≡ false
  pub read : has_read now ≡ after number (has_read before) meaning

-- where a line of this number and this meaning stops the reading behind those that were read
abbrev pub StopsAt : SaidSoFar → ℕ → Meaning Said → TextFault → Type 0
StopsAt far number meaning (BadLine line) = (line ≡ number) × (breaks far meaning ≡ true)
StopsAt far number meaning NoMemory = Unit {0}
StopsAt far number meaning ReadFault = ⊥
StopsAt far number meaning TooLong = ⊥

-- the lines of these bytes before the rest said this and were good, and the next line has this number
pub record HasRead (bytes rest : List ℕ) (number : ℕ) (far : SaidSoFar) : Type 0 where
  pub good : bad_from number far (meanings rest) ≡ bad_line bytes
  pub all : all_from number far (meanings rest) ≡ said_in bytes
  pub counted : far.events ≡ events_in far.lines

-- all lines of these bytes said this and were good; the first is bad where none said a shape
pub record HasReadAll (bytes : List ℕ) (far : SaidSoFar) : Type 0 where
  pub good : bad_from 1 far [] ≡ bad_line bytes
  pub all : far ≡ said_in bytes
  pub counted : far.events ≡ events_in far.lines
