-- What lines say, one after the other.
use Rattle.std.proofs.Common.{◌≡◌, ℕ, ◌+◌, ◌^◌, ◌≤◌, Bool, true, false, List, [], ◌∷◌, ◌++◌, length, map, Option, None, Some, refl, ap}
use Rattle.std.proofs.Common.{sym, ◌∙◌, subst, arith}
use Rattle.std.specs.Prelude.{Result, Ok, Err, IfOk, IfErr, is_some, if◌then◌else◌}
use Rattle.std.proofs.lemmas.List.Splits.{slice_split_none, slice_split_at}
use Rattle.std.proofs.lemmas.List.Sums.{sum_by-append}
use Rattle.line_text.specs.Lines.{is_end, HasNoEnd}
use Rattle.line_text.specs.declared.fault.TextFault.{TextFault}
use Rattle.line_text.specs.declared.fault.TextFault.TheVariants.{ReadFault, TooLong, BadLine, NoMemory}
use Rattle.line_text.specs.declared.meaning.Meaning.{Meaning}
use Rattle.line_text.specs.declared.meaning.Meaning.TheVariants.{Skipped, Says, Bad}
use Rattle.schedule_replay.specs.Line.{meaning_of}
use Rattle.schedule_replay.specs.Reading.{AnswersTo, IsReading, SaidSoFar, after, all_from, bad_from, bad_line, begun, breaks, events_in}
use Rattle.schedule_replay.specs.Reading.{meanings, said_in}
use Rattle.schedule_replay.specs.ScheduleWriter.{HasRead, HasReadAll, StopsAt}
use Rattle.schedule_replay.specs.declared.line.Said.{Said}
use Rattle.schedule_replay.specs.declared.line.Said.TheVariants.{Shape, Repeats}
use Rattle.schedule_replay.specs.declared.schedule.Repeat.{Repeat}
use Rattle.schedule_replay.specs.declared.schedule.Schedule.{Schedule}

-- a line and what stands behind its end
meanings_at_end : (bytes line others : List ℕ) → HasNoEnd line → bytes ≡ line ++ 10 ∷ others
    → meanings bytes ≡ meaning_of line ∷ meanings others
meanings_at_end bytes line others open_end is =
    ap meanings is ∙ ap (map meaning_of) (slice_split_at is_end line 10 others open_end refl)

-- the last piece
meanings_of_last : (bytes : List ℕ) → HasNoEnd bytes → meanings bytes ≡ meaning_of bytes ∷ []
meanings_of_last bytes open_end = ap (map meaning_of) (slice_split_none is_end bytes open_end)

-- a good line is passed, and a bad one is the first
passed : {T : Type 0} (t : Bool) (x y : T) → t ≡ false → (if t then x else y) ≡ y
passed true x y e = absurd (cc)
passed false x y e = refl

stopped : {T : Type 0} (t : Bool) (x y : T) → t ≡ true → (if t then x else y) ≡ x
stopped true x y e = refl
stopped false x y e = absurd (cc)

-- one line more
count_one : (lines : List Repeat) (last : Repeat) {n : ℕ} → n ≡ events_in lines → n + last.count ≡ events_in (lines ++ last ∷ [])
count_one lines last counted = omega (arith, counted, sum_by-append (λ (repeat : Repeat). repeat.count) lines (last ∷ []))

-- events are counted
counted_after : (number : ℕ) (far : SaidSoFar) (meaning : Meaning Said) → far.events ≡ events_in far.lines
    → (after number far meaning).events ≡ events_in (after number far meaning).lines
counted_after number far Skipped counted = counted
counted_after number far (Says (Shape numbers)) counted = counted
counted_after number far (Says (Repeats count event)) counted = count_one far.lines
    (record { line = number; count = count; event = event }) counted
counted_after number far Bad counted = counted

-- nothing is read yet
pub has_read_none : (bytes : List ℕ) → HasRead bytes bytes 1 begun
has_read_none bytes = record { good = refl; all = refl; counted = refl }

module _ (bytes rest : List ℕ) (number : ℕ) (far now : SaidSoFar) (read : HasRead bytes rest number far) where
  -- one more line, and its end
  pub has_read_line : (line others : List ℕ) → HasNoEnd line → rest ≡ line ++ 10 ∷ others → breaks far (meaning_of line) ≡ false
      → now ≡ after number far (meaning_of line) → HasRead bytes others (number + 1) now
  has_read_line line others open_end is good reads =
      let parts = meanings_at_end rest line others open_end is in
      subst (HasRead bytes others (number + 1)) (sym reads) (record {
        good =
            sym (passed (breaks far (meaning_of line)) (Some number) _ good)
            ∙ ap (bad_from number far) (sym parts)
            ∙ read.good;
        all = ap (all_from number far) (sym parts) ∙ read.all;
        counted = counted_after number far (meaning_of line) read.counted;
      })

  -- the last piece
  pub has_read_all : HasNoEnd rest → breaks far (meaning_of rest) ≡ false → now ≡ after number far (meaning_of rest) → HasReadAll bytes now
  has_read_all open_end good reads =
      let part = meanings_of_last rest open_end in
      subst (HasReadAll bytes) (sym reads) (record {
        good =
            sym (passed (breaks far (meaning_of rest)) (Some number) _ good)
            ∙ ap (bad_from number far) (sym part)
            ∙ read.good;
        all = ap (all_from number far) (sym part) ∙ read.all;
        counted = counted_after number far (meaning_of rest) read.counted;
      })

  -- the line that stops the reading is the first bad one
  stops_at : (others : List (Meaning Said)) (meaning : Meaning Said) (fault : TextFault) → meanings rest ≡ meaning ∷ others
      → StopsAt far number meaning fault → AnswersTo bytes (Err fault)
  stops_at others meaning ReadFault is stops = stops
  stops_at others meaning TooLong is stops = stops
  stops_at others meaning (BadLine line) is stops =
      sym read.good ∙ ap (bad_from number far) is ∙ stopped (breaks far meaning) (Some number) _ stops.1 ∙ ap Some (sym stops.0)
  stops_at others meaning NoMemory is stops = tt

  -- a reading that stops at a line with its end answers with that line's fault
  pub stops_at_line : (line others : List ℕ) (fault : TextFault) → HasNoEnd line → rest ≡ line ++ 10 ∷ others
      → StopsAt far number (meaning_of line) fault → AnswersTo bytes (Err fault)
  stops_at_line line others fault open_end is stops =
      stops_at (meanings others) (meaning_of line) fault (meanings_at_end rest line others open_end is) stops

  -- and so does one that stops at the last piece
  pub stops_at_last : (fault : TextFault) → HasNoEnd rest → StopsAt far number (meaning_of rest) fault → AnswersTo bytes (Err fault)
  stops_at_last fault open_end stops = stops_at [] (meaning_of rest) fault (meanings_of_last rest open_end) stops

-- a schedule of all lines
pub is_reading : (bytes : List ℕ) (far : SaidSoFar) (schedule : Schedule) → HasReadAll bytes far → far.shape ≡ Some schedule.shape
    → schedule.lines ≡ far.lines → schedule.bytes ≡ length bytes → IsReading bytes schedule
is_reading bytes far schedule read shape lines count = record {
  good = sym read.good ∙ stopped (is_some far.shape) None (Some 1) (ap is_some shape);
  shape = ap (λ said. said.shape) (sym read.all) ∙ shape;
  lines = ap (λ said. said.lines) (sym read.all) ∙ sym lines;
  whole = count;
}

-- without a shape the first line is bad
pub is_shapeless : (bytes : List ℕ) (far : SaidSoFar) (fault : TextFault) → HasReadAll bytes far → far.shape ≡ None → fault ≡ BadLine 1
    → AnswersTo bytes (Err fault)
is_shapeless bytes far fault read none is =
    subst (λ f. AnswersTo bytes (Err f)) (sym is) (sym read.good ∙ passed (is_some far.shape) None (Some 1) (ap is_some none))

-- each way to finish
pub finished : (bytes : List ℕ) (far : SaidSoFar) (count : ℕ) (result : Result Schedule TextFault) → HasReadAll bytes far
    → count ≡ length bytes
    → IfOk result (λ schedule. far.shape ≡ Some schedule.shape) → IfOk result (λ schedule. schedule.lines ≡ far.lines)
    → IfOk result (λ schedule. schedule.bytes ≡ count) → IfErr result (λ fault. (fault ≡ BadLine 1) × (far.shape ≡ None))
    → AnswersTo bytes result
finished bytes far count (Ok schedule) read many shape lines whole none = is_reading bytes far schedule read shape lines (whole ∙ many)
finished bytes far count (Err fault) read many shape lines whole none = is_shapeless bytes far fault read none.1 none.0

-- the events are few
pub finished_few : (bytes : List ℕ) (far : SaidSoFar) (result : Result Schedule TextFault) → HasReadAll bytes far → far.events ≤ 2 ^ 24
    → IfOk result (λ schedule. schedule.lines ≡ far.lines) → IfOk result (λ schedule. events_in schedule.lines ≤ 2 ^ 24)
finished_few bytes far (Ok schedule) read few lines = rw lines (omega (arith, few, read.counted))
finished_few bytes far (Err fault) read few lines = tt
