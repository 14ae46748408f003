-- What a reader of lines knows of the bytes that it has read.
use Rattle.std.specs.Prelude.{◌≡◌, ℕ, ◌+◌, List, ◌++◌, length, map}
use Rattle.line_text.specs.Lines.{lines, last_piece}
use Rattle.line_text.specs.Meanings.{said}
use Rattle.mtrace_reader.specs.Line.{meaning_of}
use Rattle.mtrace_reader.specs.Reading as reading
use Rattle.mtrace_reader.specs.declared.reading.LineReader.{LineReader}

-- these are the bytes so far: the reader has what their lines say, and what stands after the last end of a line
pub record HasRead (bytes : List ℕ) (reader : LineReader) : Type 0 where
  pub operations : reader.operations.items ≡ said (map meaning_of (lines bytes))
  pub bad_line : reader.bad_line ≡ reading.bad_line bytes
  pub number : reader.number ≡ length (lines bytes) + 1
  pub unfinished : reader.unfinished.items ≡ last_piece bytes

-- a reader has read this piece behind all that it had read
abbrev pub Reads : LineReader → LineReader → List ℕ → Type 0
Reads before after piece = (bytes : List ℕ) → HasRead bytes before → HasRead (bytes ++ piece) after
