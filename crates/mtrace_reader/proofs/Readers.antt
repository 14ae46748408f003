-- What a reader of lines has read after more bytes.
use Rattle.std.proofs.Common.{◌≡◌, ℕ, ◌+◌, ◌≤◌, List, [], ◌∷◌, ◌++◌, length, map, None, ap, sym, ◌∙◌, arith}
use Rattle.std.specs.Prelude.{Result, Ok, Err, IfOk}
use Rattle.std.specs.Option.{option_or}
use Rattle.std.specs.Bool.{then_some}
use Rattle.std.proofs.lemmas.List.{length-append, length-map, map-append}
use Rattle.line_text.specs.declared.fault.TextFault.{TextFault}
use Rattle.line_text.specs.declared.meaning.Meaning.{Meaning}
use Rattle.line_text.specs.Lines.{lines, last_piece, HasNoEnd}
use Rattle.line_text.specs.Meanings.{said, first_bad, is_bad}
use Rattle.line_text.proofs.Lines.{few_lines, lines_with_more, last_piece_with_more, lines_with_line, last_piece_with_line}
use Rattle.line_text.proofs.Meanings.{said-append, first_bad-append, first_bad_of_one}
use Rattle.mtrace_reader.specs.declared.trace.Operation.{Operation}
use Rattle.mtrace_reader.specs.declared.trace.Trace.{Trace}
use Rattle.mtrace_reader.specs.declared.reading.LineReader.{LineReader}
use Rattle.mtrace_reader.specs.Line.{meaning_of}
use Rattle.mtrace_reader.specs.Reading.{AnswersTo, IsReading}
use Rattle.mtrace_reader.specs.LineReader.{HasRead}
use Rattle.mtrace_reader.proofs.Lines.{few_operations, operations_of-parts}

number_is : (parts : List (List ℕ)) → length parts + 1 ≡ 1 + length (map meaning_of parts)
number_is parts = omega (arith, length-map parts meaning_of)

module _ (bytes more : List ℕ) (before after : LineReader) (open_end : HasNoEnd more) (read : HasRead bytes before) where
  -- bytes in which no line ends
  pub has_read_more : after.operations.items ≡ before.operations.items → after.bad_line ≡ before.bad_line → after.number ≡ before.number
      → after.unfinished.items ≡ before.unfinished.items ++ more → (all : List ℕ) → bytes ++ more ≡ all → HasRead all after
  has_read_more same_operations same_bad same_number grown all whole =
      let same : lines all ≡ lines bytes = ap lines (sym whole) ∙ lines_with_more bytes more open_end in
      record {
        operations = same_operations ∙ read.operations ∙ ap (λ parts. said (map meaning_of parts)) (sym same);
        bad_line = same_bad ∙ read.bad_line ∙ ap (λ parts. first_bad 1 (map meaning_of parts)) (sym same);
        number = same_number ∙ read.number ∙ ap (λ parts. length parts + 1) (sym same);
        unfinished = grown ∙ ap (λ start. start ++ more) read.unfinished ∙ sym (last_piece_with_more bytes more open_end)
            ∙ ap last_piece whole;
      }

  -- the others of a line's bytes and its end
  pub has_read_line : (meaning : Meaning Operation) → meaning ≡ meaning_of (before.unfinished.items ++ more)
      → after.operations.items ≡ before.operations.items ++ said (meaning ∷ [])
      → after.bad_line ≡ option_or before.bad_line (then_some (is_bad meaning) before.number)
      → after.number ≡ before.number + 1 → after.unfinished.items ≡ [] → HasRead (bytes ++ (more ++ 10 ∷ [])) after
  has_read_line meaning means kept bad next emptied =
      let same : lines (bytes ++ (more ++ 10 ∷ [])) ≡ lines bytes ++ (last_piece bytes ++ more) ∷ [] =
      lines_with_line bytes more open_end in
      let means_piece : meaning ≡ meaning_of (last_piece bytes ++ more) = means
      ∙ ap (λ start. meaning_of (start ++ more)) read.unfinished in
      let meanings : map meaning_of (lines (bytes ++ (more ++ 10 ∷ []))) ≡ map meaning_of (lines bytes) ++ meaning ∷ [] =
      ap (map meaning_of) same ∙ map-append meaning_of (lines bytes) ((last_piece bytes ++ more) ∷ [])
      ∙ ap (λ m. map meaning_of (lines bytes) ++ m ∷ []) (sym means_piece)
      in
      record {
        operations =
            kept ∙ ap (λ ops. ops ++ said (meaning ∷ [])) read.operations
            ∙ sym (said-append (map meaning_of (lines bytes)) (meaning ∷ [])) ∙ ap said (sym meanings);
        bad_line =
            bad ∙ ap (λ n. option_or before.bad_line (then_some (is_bad meaning) n)) (read.number ∙ number_is (lines bytes))
            ∙ ap (option_or before.bad_line) (sym (first_bad_of_one (1 + length (map meaning_of (lines bytes))) meaning))
            ∙ ap (λ o. option_or o (first_bad (1 + length (map meaning_of (lines bytes))) (meaning ∷ []))) read.bad_line
            ∙ sym (first_bad-append 1 (map meaning_of (lines bytes)) (meaning ∷ [])) ∙ ap (first_bad 1) (sym meanings);
        number = rw same (omega (arith, next, read.number, length-append (lines bytes) ((last_piece bytes ++ more) ∷ [])));
        unfinished = emptied ∙ sym (last_piece_with_line bytes more open_end);
      }

-- all bytes
pub is_reading : (bytes : List ℕ) (reader : LineReader) (trace : Trace) (meaning : Meaning Operation) → HasRead bytes reader
    → reader.bad_line ≡ None
    → meaning ≡ meaning_of reader.unfinished.items → trace.operations ≡ reader.operations.items ++ said (meaning ∷ [])
    → trace.cut ≡ is_bad meaning
    → trace.bytes ≡ length bytes → IsReading bytes trace
is_reading bytes reader trace meaning read none means kept cut count =
    let last_means : meaning ≡ meaning_of (last_piece bytes) = means ∙ ap meaning_of read.unfinished in
    record {
      good = sym read.bad_line ∙ none;
      operations =
          kept ∙ ap (λ ops. ops ++ said (meaning ∷ [])) read.operations
          ∙ ap (λ m. said (map meaning_of (lines bytes)) ++ said (m ∷ [])) last_means
          ∙ sym (operations_of-parts bytes);
      cut = cut ∙ ap is_bad last_means;
      whole = count;
    }

-- the number of the line that hasn't ended is at most one more than the bytes
pub few_numbers : (bytes : List ℕ) (reader : LineReader) → HasRead bytes reader → reader.number ≤ length bytes + 1
few_numbers bytes reader read = omega (arith, read.number, few_lines bytes)

-- a trace says at most as many operations as it has bytes
pub few_answered : (bytes : List ℕ) (result : Result Trace TextFault) → AnswersTo bytes result
    → IfOk result (λ trace. length trace.operations ≤ trace.bytes)
few_answered bytes (Ok trace) answer = rw (answer.operations, answer.whole) (few_operations bytes)
few_answered bytes (Err fault) answer = tt
