-- What the lines of a trace say, and its last piece.
use Rattle.std.proofs.Common.{◌≡◌, ℕ, ◌+◌, ◌≤◌, List, [], ◌∷◌, ◌++◌, length, map, ap, ◌∙◌, arith}
use Rattle.std.proofs.lemmas.List.{length-append, length-map, map-append}
use Rattle.line_text.specs.Lines.{is_end, pieces, lines, last_piece}
use Rattle.line_text.specs.Meanings.{said}
use Rattle.line_text.proofs.Cuts.{slice_split_has_first}
use Rattle.line_text.proofs.Lines.{few_lines, front_and_last}
use Rattle.line_text.proofs.Meanings.{few_said, said-append, said_by_one}
use Rattle.mtrace_reader.specs.Line.{meaning_of}
use Rattle.mtrace_reader.specs.Reading.{operations_of}

-- no bytes say nothing, and others one operation at most
said_by_piece : (piece : List ℕ) → length (said (meaning_of piece ∷ [])) ≤ length piece
said_by_piece [] = omega arith
said_by_piece (byte ∷ bytes) = omega (arith, said_by_one (meaning_of (byte ∷ bytes)))

-- the operations are those of the lines and that of the last piece
pub operations_of-parts : (bytes : List ℕ)
    → operations_of bytes ≡ said (map meaning_of (lines bytes)) ++ said (meaning_of (last_piece bytes) ∷ [])
operations_of-parts bytes =
    ap (λ parts. said (map meaning_of parts)) (front_and_last (pieces bytes) (slice_split_has_first is_end bytes))
    ∙ ap said (map-append meaning_of (lines bytes) (last_piece bytes ∷ []))
    ∙ said-append (map meaning_of (lines bytes)) (meaning_of (last_piece bytes) ∷ [])

-- a trace has at most as many operations as bytes
pub few_operations : (bytes : List ℕ) → length (operations_of bytes) ≤ length bytes
few_operations bytes =
    rw (operations_of-parts bytes)
    (omega (
      arith,
      length-append (said (map meaning_of (lines bytes))) (said (meaning_of (last_piece bytes) ∷ [])),
      few_said (map meaning_of (lines bytes)),
      length-map (lines bytes) meaning_of,
      said_by_piece (last_piece bytes),
      few_lines bytes,
    ))
