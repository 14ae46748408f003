-- What lines say, one after the other.
use Rattle.std.proofs.Common.{◌≡◌, ℕ, ◌+◌, ◌≤◌, true, false, cond, List, [], ◌∷◌, ◌++◌, length, map, None, Some, refl, ap, sym, ◌∙◌}
use Rattle.std.proofs.Common.{subst, append_assoc, arith}
use Rattle.std.specs.Prelude.{Result, Ok, Err, IfOk}
use Rattle.std.specs.List.{slice_split, onto_first}
use Rattle.std.proofs.lemmas.List.{length-append, length-map}
use Rattle.std.proofs.lemmas.List.Splits.{slice_split_none, slice_split_at}
use Rattle.line_text.specs.Lines.{is_end, pieces, HasNoEnd}
use Rattle.line_text.specs.Meanings.{said, first_bad, is_bad}
use Rattle.line_text.proofs.Meanings.{first_bad-bad, first_bad-good, said-append, said_by_one}
use Rattle.store_script.specs.declared.line.Request.{Request}
use Rattle.line_text.specs.declared.meaning.Meaning.{Meaning}
use Rattle.store_script.specs.declared.command.StoreScript.{StoreScript}
use Rattle.line_text.specs.declared.fault.TextFault.{TextFault}
use Rattle.store_script.specs.Line.{meaning_of}
use Rattle.std.specs.BTreeMap.{btree_map_len}
use Rattle.line_text.specs.declared.fault.TextFault.TheVariants.{ReadFault, TooLong, BadLine, NoMemory}
use Rattle.store_script.specs.declared.reading.ScriptWriter.{ScriptWriter}
use Rattle.store_script.specs.Script.{request_of}
use Rattle.store_script.specs.Reading.{meanings, bad_line, IsReading, AnswersTo}
use Rattle.store_script.specs.ScriptWriter.{IsAt, HasRead, ReadsLine, StopsAt}

-- a line and what stands behind its end
pub meanings_at_end : (bytes line after : List ℕ) → HasNoEnd line → bytes ≡ line ++ 10 ∷ after
    → meanings bytes ≡ meaning_of line ∷ meanings after
meanings_at_end bytes line after open_end is =
    ap meanings is ∙ ap (map meaning_of) (slice_split_at is_end line 10 after open_end refl)

-- the last piece
pub meanings_of_last : (bytes : List ℕ) → HasNoEnd bytes → meanings bytes ≡ meaning_of bytes ∷ []
meanings_of_last bytes open_end = ap (map meaning_of) (slice_split_none is_end bytes open_end)

module _ (bytes rest : List ℕ) (number : ℕ) (before now : ScriptWriter) (read : HasRead bytes rest number before) where
  -- one more line, and its end
  pub has_read_line : (line after : List ℕ) → HasNoEnd line → rest ≡ line ++ 10 ∷ after → is_bad (meaning_of line) ≡ false
      → ReadsLine before now (meaning_of line) → HasRead bytes after (number + 1) now
  has_read_line line after open_end is good reads =
      let parts = meanings_at_end rest line after open_end is in
      record {
        so_far = read.so_far ++ said (meaning_of line ∷ []);
        at = reads read.so_far read.at;
        others =
            append_assoc read.so_far (said (meaning_of line ∷ [])) (said (meanings after))
            ∙ ap (λ more. read.so_far ++ more) (sym (said-append (meaning_of line ∷ []) (meanings after)))
            ∙ ap (λ ms. read.so_far ++ said ms) (sym parts)
            ∙ read.others;
        good = sym (first_bad-good number (meaning_of line) (meanings after) good) ∙ ap (first_bad number) (sym parts) ∙ read.good;
      }

  -- the last piece
  pub has_read_all : HasNoEnd rest → is_bad (meaning_of rest) ≡ false → ReadsLine before now (meaning_of rest)
      → IsAt now (said (meanings bytes)) × (bad_line bytes ≡ None)
  has_read_all open_end good reads =
      let part = meanings_of_last rest open_end in (
        subst (IsAt now) (ap (λ ms. read.so_far ++ said ms) (sym part) ∙ read.others) (reads read.so_far read.at),
        sym read.good ∙ ap (first_bad number) part ∙ first_bad-good number (meaning_of rest) [] good,
      )

  -- the line that stops the reading is the first bad one
  stops_at : (others : List (Meaning Request)) (meaning : Meaning Request) (fault : TextFault) → meanings rest ≡ meaning ∷ others
      → StopsAt number meaning fault → AnswersTo bytes (Err fault)
  stops_at others meaning ReadFault is stops = stops
  stops_at others meaning TooLong is stops = stops
  stops_at others meaning (BadLine line) is stops =
      sym read.good ∙ ap (first_bad number) is ∙ first_bad-bad number meaning others stops.1 ∙ ap Some (sym stops.0)
  stops_at others meaning NoMemory is stops = tt

  -- a reading that stops at a line with its end answers with that line's fault
  pub stops_at_line : (line after : List ℕ) (fault : TextFault) → HasNoEnd line → rest ≡ line ++ 10 ∷ after
      → StopsAt number (meaning_of line) fault → AnswersTo bytes (Err fault)
  stops_at_line line after fault open_end is stops =
      stops_at (meanings after) (meaning_of line) fault (meanings_at_end rest line after open_end is) stops

  -- and so does one that stops at the last piece
  pub stops_at_last : (fault : TextFault) → HasNoEnd rest → StopsAt number (meaning_of rest) fault → AnswersTo bytes (Err fault)
  stops_at_last fault open_end stops = stops_at [] (meaning_of rest) fault (meanings_of_last rest open_end) stops

-- nothing is read yet
pub has_read_none : (bytes : List ℕ) (writer : ScriptWriter) → IsAt writer [] → HasRead bytes bytes 1 writer
has_read_none bytes writer at = record { so_far = []; at = at; others = refl; good = refl }

-- the script of a writer that has read all
pub is_reading : (bytes : List ℕ) (writer : ScriptWriter) (script : StoreScript)
    → IsAt writer (said (meanings bytes)) × (bad_line bytes ≡ None)
    → script.commands ≡ writer.commands.items → script.slots ≡ btree_map_len writer.slots.slots → script.bytes ≡ length bytes
    → IsReading bytes script
is_reading bytes writer script read commands slots count =
    let at = read.0 in
    record {
      good = read.1;
      commands = ap (map request_of) commands ∙ at.commands;
      well_formed = rw commands (record {
        each = at.each;
        slots = slots ∙ at.names.count;
        indices = at.indices;
      });
      whole = count;
    }

-- a line that asks for something has a byte
asked_by_line : (line : List ℕ) → length (said (meaning_of line ∷ [])) ≤ length line
asked_by_line [] = omega arith
asked_by_line (byte ∷ bytes) = omega (arith, said_by_one (meaning_of (byte ∷ bytes)))

-- how many bytes pieces have
abbrev bytes_in : List (List ℕ) → ℕ
bytes_in [] = 0
bytes_in (part ∷ parts) = length part + bytes_in parts

-- the bytes of the pieces are at most the bytes
bytes_in-onto_first : (byte : ℕ) (parts : List (List ℕ)) → bytes_in (onto_first byte parts) ≡ 1 + bytes_in parts
bytes_in-onto_first byte [] = refl
bytes_in-onto_first byte (part ∷ parts) = omega arith

bytes_in-pieces : (bytes : List ℕ) → bytes_in (slice_split is_end bytes) ≤ length bytes
bytes_in-pieces [] = omega arith
bytes_in-pieces (byte ∷ bytes) =
    let rest = bytes_in-pieces bytes in
    elim (is_end byte) as
    (λ ends. bytes_in (cond ends ([] ∷ slice_split is_end bytes) (onto_first byte (slice_split is_end bytes))) ≤ length (byte ∷ bytes)) [
      | true ↦ omega arith
      | false ↦ omega (arith, bytes_in-onto_first byte (slice_split is_end bytes))
    ]

asked_by_lines : (parts : List (List ℕ)) → length (said (map meaning_of parts)) ≤ bytes_in parts
asked_by_lines [] = omega arith
asked_by_lines (part ∷ parts) =
    rw (said-append (meaning_of part ∷ []) (map meaning_of parts))
    (omega (arith, length-append (said (meaning_of part ∷ [])) (said (map meaning_of parts)), asked_by_line part, asked_by_lines parts))

-- a script has at most as many commands as bytes
pub few_commands : (bytes : List ℕ) (script : StoreScript) → IsReading bytes script → length script.commands ≤ script.bytes
few_commands bytes script is =
    omega (
      arith,
      is.whole,
      sym (length-map script.commands request_of),
      ap length is.commands,
      asked_by_lines (pieces bytes),
      bytes_in-pieces bytes,
    )

-- a reading that answers with a script has at most as many commands as bytes
pub few_answered : (bytes : List ℕ) (result : Result StoreScript TextFault) → AnswersTo bytes result
    → IfOk result (λ script. length script.commands ≤ script.bytes)
few_answered bytes (Ok script) answer = few_commands bytes script answer
few_answered bytes (Err fault) answer = tt
