-- Bytes that are cut into lines, and what more bytes change.
use Rattle.std.proofs.Common.{◌≡◌, ℕ, ◌+◌, ◌<◌, ◌≤◌, true, false, cond, List, [], ◌∷◌, ◌++◌, length, get_or, take, drop, suc, add-one}
use Rattle.std.proofs.Common.{position, None, Some, inl, inr, refl, ap, sym, ◌∙◌, arith}
use Rattle.std.specs.List.{position_or_len, onto_first}
use Rattle.std.proofs.lemmas.Bool.{cases_lt, lt-ltb}
use Rattle.std.proofs.lemmas.List.{get_or-take, length-take-le, append_assoc, append-nil}
use Rattle.std.proofs.lemmas.List.Elements.{All-from_get_or, All-nil, All-cons, All-append}
use Rattle.std.proofs.lemmas.List.Splits.{slice_split_none, slice_split_at}
use Rattle.std.proofs.lemmas.List.Sums.{fails_before_first}
use Rattle.std.proofs.lemmas.List.Quantifiers.{position-Some}
use Rattle.std.proofs.lemmas.Bool.Decides.{nat_tests}
use Rattle.std.proofs.Math.Seq.{split_at}
use Rattle.line_text.specs.Lines.{is_end, pieces, lines, last_piece, front, last, HasNoEnd}
use Rattle.line_text.proofs.Cuts.{HasFirst, slice_split_has_first}

-- bytes without an end of a line, and bytes with one
pub no_end : (bytes : List ℕ) → position is_end bytes ≡ None → HasNoEnd bytes
no_end bytes none =
    let past : length bytes ≤ position_or_len is_end bytes =
    elim (cases_lt (position_or_len is_end bytes) (length bytes)) as (λ _. length bytes ≤ position_or_len is_end bytes) [
      | inl within ↦ let found : position is_end bytes ≡ Some (position_or_len is_end bytes) = rw (lt-ltb _ _ within) refl in absurd (cc)
      | inr past ↦ past
    ]
    in
    All-from_get_or (λ byte. is_end byte ≡ false) bytes 0 (λ k below. fails_before_first is_end bytes k 0 (omega arith))

-- before the first end of a line no line ends
pub no_end_before : (bytes : List ℕ) (end : ℕ) → position is_end bytes ≡ Some end → HasNoEnd (take end bytes)
no_end_before bytes end found =
    let at = position-Some is_end bytes end 0 found in
    All-from_get_or (λ byte. is_end byte ≡ false) (take end bytes) 0 (λ k below.
    let before : k < end = omega (arith, length-take-le end bytes (omega (arith, at.0))) in
    rw (get_or-take end bytes k 0 before) (at.2 k before))

-- bytes with an end of a line are those before it, that end, and those after it
pub parts_at_end : (bytes : List ℕ) (end : ℕ) → position is_end bytes ≡ Some end → bytes ≡ take end bytes ++ 10 ∷ drop (end + 1) bytes
parts_at_end bytes end found =
    let at = position-Some is_end bytes end 0 found in
    let ten : get_or bytes end 0 ≡ 10 = grind (arith, nat_tests, at.1) in
    rw add-one (split_at bytes end 0 at.0 ∙ ap (λ byte. take end bytes ++ byte ∷ drop (suc end) bytes) ten)

-- a piece before others is a line, and not the last piece
front-cons : (piece : List ℕ) (others : List (List ℕ)) → HasFirst others → front (piece ∷ others) ≡ piece ∷ front others
front-cons piece others h = rw h.is refl

last-cons : (piece : List ℕ) (others : List (List ℕ)) → HasFirst others → last (piece ∷ others) ≡ last others
last-cons piece others h = rw h.is refl

HasFirst-append : (before others : List (List ℕ)) → HasFirst others → HasFirst (before ++ others)
HasFirst-append [] others h = h
HasFirst-append (piece ∷ before) others h = record { first = piece; others = before ++ others; is = refl }

front-append : (before others : List (List ℕ)) → HasFirst others → front (before ++ others) ≡ before ++ front others
front-append [] others h = refl
front-append (piece ∷ before) others h =
    front-cons piece (before ++ others) (HasFirst-append before others h) ∙ ap (λ more. piece ∷ more) (front-append before others h)

last-append : (before others : List (List ℕ)) → HasFirst others → last (before ++ others) ≡ last others
last-append [] others h = refl
last-append (piece ∷ before) others h =
    last-cons piece (before ++ others) (HasFirst-append before others h) ∙ last-append before others h

-- What is known of the pieces of some bytes: the last one has no end, they are no more than the bytes, and more bytes go on
-- where the last one stands.
record IsCut (bytes : List ℕ) (parts : List (List ℕ)) : Type 0 where
  open_end : HasNoEnd (last parts)
  few : length (front parts) + length (last parts) ≤ length bytes
  goes_on : (more : List ℕ) → pieces (bytes ++ more) ≡ front parts ++ pieces (last parts ++ more)

IsCut-end : (byte : ℕ) (bytes : List ℕ) (parts : List (List ℕ)) → HasFirst parts → is_end byte ≡ true → IsCut bytes parts
    → IsCut (byte ∷ bytes) ([] ∷ parts)
IsCut-end byte bytes parts some ends cut =
    let first = front-cons [] parts some in
    let others = last-cons [] parts some in
    record {
      open_end = rw others cut.open_end;
      few = rw (first, others) (omega (arith, cut.few));
      goes_on = λ more. rw (first, others, ends) (ap (λ rest. [] ∷ rest) (cut.goes_on more));
    }

IsCut-other : (byte : ℕ) (bytes : List ℕ) (parts : List (List ℕ)) → HasFirst parts → is_end byte ≡ false → IsCut bytes parts
    → IsCut (byte ∷ bytes) (onto_first byte parts)
IsCut-other byte bytes [] some other cut = absurd (let none = some.is in cc)
IsCut-other byte bytes (part ∷ []) some other cut = record {
  open_end = All-cons (λ b. is_end b ≡ false) byte part other cut.open_end;
  few = omega (arith, cut.few);
  goes_on = λ more. rw other (ap (onto_first byte) (cut.goes_on more));
}
IsCut-other byte bytes (part ∷ next ∷ others) some other cut = record {
  open_end = cut.open_end;
  few = omega (arith, cut.few);
  goes_on = λ more. rw other (ap (onto_first byte) (cut.goes_on more));
}

is_cut : (bytes : List ℕ) → IsCut bytes (pieces bytes)
is_cut [] = record { open_end = All-nil (λ b. is_end b ≡ false); few = omega arith; goes_on = λ more. refl }
is_cut (byte ∷ bytes) =
    let parts = pieces bytes in
    let some = slice_split_has_first is_end bytes in
    elim (is_end byte) as (λ ends. is_end byte ≡ ends → IsCut (byte ∷ bytes) (cond ends ([] ∷ parts) (onto_first byte parts))) [
      | true ↦ λ ends. IsCut-end byte bytes parts some ends (is_cut bytes)
      | false ↦ λ other. IsCut-other byte bytes parts some other (is_cut bytes)
    ]
    refl

-- the lines of bytes and then more bytes, and what stands after them
lines-append : (bytes more : List ℕ) → lines (bytes ++ more) ≡ lines bytes ++ lines (last_piece bytes ++ more)
lines-append bytes more =
    ap front ((is_cut bytes).goes_on more)
    ∙ front-append (lines bytes) (pieces (last_piece bytes ++ more)) (slice_split_has_first is_end (last_piece bytes ++ more))

last_piece-append : (bytes more : List ℕ) → last_piece (bytes ++ more) ≡ last_piece (last_piece bytes ++ more)
last_piece-append bytes more =
    ap last ((is_cut bytes).goes_on more)
    ∙ last-append (lines bytes) (pieces (last_piece bytes ++ more)) (slice_split_has_first is_end (last_piece bytes ++ more))

-- bytes in which no line ends go on with the last piece
module _ (bytes more : List ℕ) (open_end : HasNoEnd more) where
  one_piece : pieces (last_piece bytes ++ more) ≡ (last_piece bytes ++ more) ∷ []
  one_piece =
      slice_split_none is_end (last_piece bytes ++ more)
      (All-append (λ b. is_end b ≡ false) (last_piece bytes) more (is_cut bytes).open_end open_end)

  -- so no line is added
  pub lines_with_more : lines (bytes ++ more) ≡ lines bytes
  lines_with_more = lines-append bytes more ∙ ap (λ parts. lines bytes ++ front parts) one_piece ∙ append-nil (lines bytes)

  -- and the last piece goes on with them
  pub last_piece_with_more : last_piece (bytes ++ more) ≡ last_piece bytes ++ more
  last_piece_with_more = last_piece-append bytes more ∙ ap last one_piece

  -- and with the end of a line they are a line
  two_pieces : pieces (last_piece bytes ++ (more ++ 10 ∷ [])) ≡ (last_piece bytes ++ more) ∷ [] ∷ []
  two_pieces =
      ap pieces (sym (append_assoc (last_piece bytes) more (10 ∷ [])))
      ∙ slice_split_at is_end (last_piece bytes ++ more) 10 []
      (All-append (λ b. is_end b ≡ false) (last_piece bytes) more (is_cut bytes).open_end open_end) refl

  -- one line is added, the last piece and these bytes
  pub lines_with_line : lines (bytes ++ (more ++ 10 ∷ [])) ≡ lines bytes ++ (last_piece bytes ++ more) ∷ []
  lines_with_line = lines-append bytes (more ++ 10 ∷ []) ∙ ap (λ parts. lines bytes ++ front parts) two_pieces

  -- and nothing stands after it
  pub last_piece_with_line : last_piece (bytes ++ (more ++ 10 ∷ [])) ≡ []
  last_piece_with_line = last_piece-append bytes (more ++ 10 ∷ []) ∙ ap last two_pieces

-- the lines are at most the bytes
pub few_lines : (bytes : List ℕ) → length (lines bytes) + length (last_piece bytes) ≤ length bytes
few_lines bytes = (is_cut bytes).few

-- the pieces are the lines and the last piece
pub front_and_last : (parts : List (List ℕ)) → HasFirst parts → parts ≡ front parts ++ last parts ∷ []
front_and_last [] some = absurd (let none = some.is in cc)
front_and_last (part ∷ []) some = refl
front_and_last (part ∷ next ∷ others) some =
    ap (λ more. part ∷ more) (front_and_last (next ∷ others) (record { first = next; others = others; is = refl }))
