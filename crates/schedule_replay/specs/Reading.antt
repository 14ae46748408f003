-- What the bytes of a schedule say.
use Rattle.std.specs.Prelude.{◌≡◌, ℕ, ◌+◌, ◌^◌, ◌||◌, nat_lt, Bool, true, false, not, List, [], ◌∷◌, ◌++◌, length, map}
use Rattle.std.specs.List.{sum_by}
use Rattle.std.specs.Prelude.{Option, None, Some, is_some, Result, if◌then◌else◌}
use Rattle.line_text.specs.Answers as text
use Rattle.line_text.specs.Lines.{pieces}
use Rattle.line_text.specs.Taken as taken
use Rattle.line_text.specs.declared.fault.TextFault.{TextFault}
use Rattle.line_text.specs.declared.meaning.Meaning.{Meaning}
use Rattle.line_text.specs.declared.meaning.Meaning.TheVariants.{Skipped, Says, Bad}
use Rattle.schedule_replay.specs.Line.{meaning_of}
use Rattle.schedule_replay.specs.declared.line.Said.{Said}
use Rattle.schedule_replay.specs.declared.line.Said.TheVariants.{Shape, Repeats}
use Rattle.schedule_replay.specs.declared.schedule.Repeat.{Repeat}
use Rattle.schedule_replay.specs.declared.schedule.Schedule.{Schedule}

-- what some lines said: the shape, if one did, the events that are repeated, and how many these are
pub record SaidSoFar : Type 0 where
  pub shape : Option (List ℕ)
  pub lines : List Repeat
  pub events : ℕ

-- no line said anything
abbrev pub begun : SaidSoFar
begun = record { shape = None; lines = []; events = 0 }

-- a schedule has at most so many events
abbrev pub most_events : ℕ
most_events = 2 ^ 24

-- whether a line is bad behind those: it is of no form, says a shape behind another, or events before one or too many
abbrev pub breaks : SaidSoFar → Meaning Said → Bool
breaks far Skipped = false
breaks far (Says (Shape numbers)) = is_some far.shape
breaks far (Says (Repeats count event)) = not (is_some far.shape) || nat_lt most_events (far.events + count)
breaks far Bad = true

-- what they said with one more, which has this number
abbrev pub after : ℕ → SaidSoFar → Meaning Said → SaidSoFar
after number far Skipped = far
after number far (Says (Shape numbers)) = record far { shape = Some numbers }
after number far (Says (Repeats count event)) = record far {
  lines = far.lines ++ record { line = number; count = count; event = event } ∷ [];
  events = far.events + count;
}
after number far Bad = far

-- what they said with all these, the first of which has this number
abbrev pub all_from : ℕ → SaidSoFar → List (Meaning Said) → SaidSoFar
all_from number far [] = far
all_from number far (meaning ∷ others) = all_from (number + 1) (after number far meaning) others

-- the first bad line of these; the first of all is bad where none says a shape
abbrev pub bad_from : ℕ → SaidSoFar → List (Meaning Said) → Option ℕ
bad_from number far [] = if is_some far.shape then None else Some 1
bad_from number far (meaning ∷ others) =
    if breaks far meaning then Some number else bad_from (number + 1) (after number far meaning) others

-- what the lines mean. The last piece, behind the last end of a line, is a line too: where it is empty it is skipped.
abbrev pub meanings : List ℕ → List (Meaning Said)
meanings bytes = map meaning_of (pieces bytes)

-- the number of the first bad line, counted from 1
abbrev pub bad_line : List ℕ → Option ℕ
bad_line bytes = bad_from 1 begun (meanings bytes)

-- what all lines say
abbrev pub said_in : List ℕ → SaidSoFar
said_in bytes = all_from 1 begun (meanings bytes)

-- how many events lines make
abbrev pub events_in : List Repeat → ℕ
events_in lines = sum_by (λ repeat. repeat.count) lines

-- these bytes are read as this schedule
pub record IsReading (bytes : List ℕ) (schedule : Schedule) : Type 0 where
  pub good : bad_line bytes ≡ None
  pub shape : (said_in bytes).shape ≡ Some schedule.shape
  pub lines : (said_in bytes).lines ≡ schedule.lines
  pub whole : schedule.bytes ≡ length bytes

-- each answer to bytes that were read
abbrev pub AnswersTo : List ℕ → Result Schedule TextFault → Type 0
AnswersTo bytes result = text.AnswersTo IsReading bad_line bytes result

-- each answer to a source that has these bytes left, of which so many may be read
abbrev pub AnswersFor : ℕ → List ℕ → Result Schedule TextFault → Type 0
AnswersFor limit bytes result = text.AnswersFor IsReading bad_line limit bytes result

-- the reads by the answer, where so many bytes may be read
abbrev pub ReadsFor : ℕ → List (Option ℕ) → List (Option ℕ) → Result Schedule TextFault → Type 0
ReadsFor limit before now result = taken.ReadsFor (λ (schedule : Schedule). schedule.bytes) limit before now result
