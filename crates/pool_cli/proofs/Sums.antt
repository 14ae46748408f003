-- Columns of a line: where they stand, and the sums one file on.
use Rattle.std.proofs.Common.{◌≡◌, ℕ, ◌+◌, ◌^◌, ◌<◌, ◌≤◌, nat_eq, set, Bool, true, false, nat_le, inl, inr, zero, suc, List, [], ◌∷◌, ◌++◌, append_assoc, append-nil, length, take, map, get_or, replicate, refl, sym, ap, ◌∙◌, arith, Some}
use Rattle.std.specs.Prelude.{codes, flat_map, option_map, slice_get, sum_by}
use Rattle.std.proofs.lemmas.Bool.{cases_Bool, cases_eq, eqb-true}
use Rattle.std.proofs.lemmas.Bool.Decides.{nat_tests}
use Rattle.std.proofs.lemmas.Grind.{flat_map-append}
use Rattle.std.proofs.lemmas.List.Folds.{list_all_at}
use Rattle.std.proofs.lemmas.List.{get_or-set_other, get_or-set_same, length-map, take_all, take_more}
use Rattle.std.proofs.lemmas.List.Sums.{sum_by-cons}
use Rattle.std.proofs.lemmas.Option.{same_Some, slice_get-map, slice_get-get_or, slice_get_within}
use Rattle.std.specs.List.{list_all}
use Rattle.std.specs.Borrow.{Bor}
use Rattle.trace_player.specs.declared.tally.Tally.{Tally}
use Rattle.trace_player.specs.Report.{column_text, columns, columns_of, line_text, plus, sums_of}
use Rattle.trace_player.proofs.Reporting.{sums_more}

-- an item of a list passes what all its items pass
passes_at : {X : Type 0} (passes : X → Bool) (xs : List X) (i : ℕ) (x : X) → list_all passes xs ≡ true → slice_get xs i ≡ Some x → passes x ≡ true
passes_at passes xs i x all at =
    let lt : i < length xs = slice_get_within xs i x at in
    let here : get_or xs i x ≡ x = cc (slice_get-get_or xs i x lt) in
    elim (cases_Bool (passes (get_or xs i x))) [
      | inl good ↦ ap passes (sym here) ∙ good
      | inr bad ↦ let none : list_all passes xs ≡ false = list_all_at passes xs i x lt bad in cc
    ]

-- a name has at most 7 bytes
name_length-le : (tally : Tally) (i : ℕ) (column : List ℕ × ℕ) → slice_get (columns_of tally) i ≡ Some column → length column.0 ≤ 7
name_length-le tally i column at =
    let short : nat_le (length column.0) 7 ≡ true = passes_at (λ (some : List ℕ × ℕ). nat_le (length some.0) 7) (columns_of tally) i column refl at in
    grind (arith, nat_tests)

-- the column at a place, of columns that are kept as texts and numbers
pub column_at : (kept : List (Bor (List ℕ) × ℕ)) (tally : Tally) (i : ℕ) (d : Bor (List ℕ) × ℕ) → map (λ column. (column.0.now, column.1)) kept ≡ columns_of tally → i < length (columns_of tally)
    → slice_get (columns_of tally) i ≡ Some ((get_or kept i d).0.now, (get_or kept i d).1)
column_at kept tally i d same lt =
    let show : Bor (List ℕ) × ℕ → List ℕ × ℕ = λ column. (column.0.now, column.1) in
    let long : length kept ≡ length (columns_of tally) = sym (length-map kept show) ∙ ap length same in
    ap (λ line. slice_get line i) (sym same) ∙ slice_get-map show kept i ∙ ap (option_map show) (slice_get-get_or kept i d (omega arith))

-- the numbers at a place are added there
plus_at : (some more : List (List ℕ × ℕ)) (i : ℕ) (name other : List ℕ) (m n : ℕ) → slice_get some i ≡ Some (name, m) → slice_get more i ≡ Some (other, n) → slice_get (plus some more) i ≡ Some (name, m + n)
plus_at [] more zero name other m n at too = cc
plus_at [] more (suc i) name other m n at too = cc
plus_at (x ∷ some) [] zero name other m n at too = cc
plus_at (x ∷ some) [] (suc i) name other m n at too = cc
plus_at (x ∷ some) (y ∷ more) zero name other m n at too =
    let first : x ≡ (name, m) = cc in
    let second : y ≡ (other, n) = cc in
    ap (λ (both : (List ℕ × ℕ) × (List ℕ × ℕ)). Some (both.0.0, both.0.1 + both.1.1)) (let pair : (x, y) ≡ ((name, m), (other, n)) = cc in pair)
plus_at (x ∷ some) (y ∷ more) (suc i) name other m n at too = plus_at some more i name other m n at too

-- a column of the sums, one file on
sums_next : (tallies : List Tally) (i : ℕ) (d : Tally) (place : ℕ) (name other : List ℕ) (m n : ℕ) → i < length tallies
    → slice_get (sums_of (take i tallies)) place ≡ Some (name, m) → slice_get (columns_of (get_or tallies i d)) place ≡ Some (other, n)
    → slice_get (sums_of (take (i + 1) tallies)) place ≡ Some (name, m + n)
sums_next tallies i d place name other m n lt at too =
    ap (λ line. slice_get line place) (sums_more tallies i d lt) ∙ plus_at (sums_of (take i tallies)) (columns_of (get_or tallies i d)) place name other m n at too

-- the numbers of the first columns were added to the sums, and those after them stay
pub record Added (line : List (List ℕ × ℕ)) (count : ℕ) (old new : List ℕ) : Type 0 where
  pub added : (k : ℕ) (column : List ℕ × ℕ) → k < count → slice_get line k ≡ Some column → get_or new k 0 ≡ get_or old k 0 + column.1
  pub stays : (k : ℕ) → count ≤ k → get_or new k 0 ≡ get_or old k 0
  pub small : (k : ℕ) → get_or new k 0 ≤ get_or old k 0 + 2 ^ 64

-- the number of the next column is added
pub added_next : (line : List (List ℕ × ℕ)) (old new : List ℕ) (place number value : ℕ) (name : List ℕ) → place < length new → number < 2 ^ 64
    → slice_get line place ≡ Some (name, number) → value ≡ get_or new place 0 + number → Added line place old new → Added line (place + 1) old (set new place value)
added_next line old new place number value name within low here is was = record {
  added = λ k column below at. elim (cases_eq k place) [
    | inl e ↦ let same : column ≡ (name, number) = same_Some column (name, number) (sym at ∙ ap (slice_get line) e ∙ here) in
        rw (e, same) (get_or-set_same new place value 0 within ∙ is ∙ ap (λ n. n + number) (was.stays place (omega arith)))
    | inr ne ↦ get_or-set_other new place k value 0 ne ∙ was.added k column (omega arith) at
  ];
  stays = λ k above. get_or-set_other new place k value 0 (omega arith) ∙ was.stays k (omega arith);
  small = λ k. elim (cases_eq k place) [
    | inl e ↦ rw e (omega (arith, is, get_or-set_same new place value 0 within, was.stays place (omega arith)))
    | inr ne ↦ omega (arith, get_or-set_other new place k value 0 ne, was.small k)
  ];
}

-- the sums have the numbers of these columns
abbrev pub HasNumbers : List (List ℕ × ℕ) → List ℕ → Type 0
HasNumbers line sums = (k : ℕ) (column : List ℕ × ℕ) → slice_get line k ≡ Some column → get_or sums k 0 ≡ column.1

-- no number of a list of zeros is another
pub zeros : (n k : ℕ) → get_or {A = ℕ} (replicate n 0) k 0 ≡ 0
zeros zero k = refl
zeros (suc n) zero = refl
zeros (suc n) (suc k) = zeros n k

-- the sums over no file are all 0
pub numbers_none : (n : ℕ) → HasNumbers (sums_of []) (replicate n 0)
numbers_none n = λ k column at.
    let none : nat_eq column.1 0 ≡ true = passes_at (λ (some : List ℕ × ℕ). nat_eq some.1 0) (sums_of []) k column refl at in
    zeros n k ∙ sym (eqb-true column.1 0 none)

-- where one tally has a column, the sums have one of the same name
names_in : (cs : List (List ℕ × (Tally → ℕ))) (tally : Tally) (tallies : List Tally) (k number : ℕ) (name : List ℕ)
    → slice_get {X = List ℕ × ℕ} (map (λ (c : List ℕ × (Tally → ℕ)). (c.0, c.1 tally)) cs) k ≡ Some (name, number)
    → (sum : ℕ) × (slice_get {X = List ℕ × ℕ} (map (λ (c : List ℕ × (Tally → ℕ)). (c.0, sum_by c.1 tallies)) cs) k ≡ Some (name, sum))
names_in [] tally tallies k number name at = absurd cc
names_in (c ∷ cs) tally tallies zero number name at =
    let same : c.0 ≡ name = ap (λ (both : List ℕ × ℕ). both.0) (same_Some (c.0, c.1 tally) (name, number) at) in
    (sum_by c.1 tallies, ap (λ (n : List ℕ). Some (n, sum_by c.1 tallies)) same)
names_in (c ∷ cs) tally tallies (suc k) number name at = names_in cs tally tallies k number name at

-- and the other way round
back_in : (cs : List (List ℕ × (Tally → ℕ))) (tally : Tally) (tallies : List Tally) (k : ℕ) (column : List ℕ × ℕ)
    → slice_get {X = List ℕ × ℕ} (map (λ (c : List ℕ × (Tally → ℕ)). (c.0, sum_by c.1 tallies)) cs) k ≡ Some column
    → (number : ℕ) × (slice_get {X = List ℕ × ℕ} (map (λ (c : List ℕ × (Tally → ℕ)). (c.0, c.1 tally)) cs) k ≡ Some (column.0, number))
back_in [] tally tallies k column at = absurd cc
back_in (c ∷ cs) tally tallies zero column at =
    let same : c.0 ≡ column.0 = ap (λ (both : List ℕ × ℕ). both.0) (same_Some (c.0, sum_by c.1 tallies) column at) in
    (c.1 tally, ap (λ (n : List ℕ). Some (n, c.1 tally)) same)
back_in (c ∷ cs) tally tallies (suc k) column at = back_in cs tally tallies k column at

-- a column of the sums, with the name of one tally's column and the number of the sums
pub column_of_sums : (tallies : List Tally) (tally : Tally) (kept : List (Bor (List ℕ) × ℕ)) (d : Bor (List ℕ) × ℕ) (k : ℕ) (sums : List ℕ)
    → map (λ column. (column.0.now, column.1)) kept ≡ columns_of tally → k < length (columns_of tally) → HasNumbers (sums_of tallies) sums
    → slice_get (sums_of tallies) k ≡ Some ((get_or kept k d).0.now, get_or sums k 0)
column_of_sums tallies tally kept d k sums same within has =
    let found = names_in columns tally tallies k (get_or kept k d).1 (get_or kept k d).0.now (column_at kept tally k d same within) in
    found.1 ∙ ap (λ n. Some ((get_or kept k d).0.now, n)) (sym (has k ((get_or kept k d).0.now, found.0) found.1))

-- the names of columns are short
pub name_in-le : (tally : Tally) (kept : List (Bor (List ℕ) × ℕ)) (d : Bor (List ℕ) × ℕ) (k : ℕ)
    → map (λ column. (column.0.now, column.1)) kept ≡ columns_of tally → k < length (columns_of tally) → length (get_or kept k d).0.now ≤ 7
name_in-le tally kept d k same within = name_length-le tally k ((get_or kept k d).0.now, (get_or kept k d).1) (column_at kept tally k d same within)

-- the sums one file on, where the numbers of its columns were added
pub numbers_next : (tallies : List Tally) (i : ℕ) (d : Tally) (old new : List ℕ) → i < length tallies → HasNumbers (sums_of (take i tallies)) old
    → ((k : ℕ) (column : List ℕ × ℕ) → slice_get (columns_of (get_or tallies i d)) k ≡ Some column → get_or new k 0 ≡ get_or old k 0 + column.1)
    → HasNumbers (sums_of (take (i + 1) tallies)) new
numbers_next tallies i d old new within has added = λ k column at.
    let tally = get_or tallies i d in
    let before : List Tally = take i tallies in
    let here : (number : ℕ) × (slice_get (columns_of tally) k ≡ Some (column.0, number)) = from_sums k column at in
    let then : (sum : ℕ) × (slice_get (sums_of before) k ≡ Some (column.0, sum)) = names_in columns tally before k here.0 column.0 here.1 in
    let now = sums_next tallies i d k column.0 column.0 then.0 here.0 within then.1 here.1 in
    added k (column.0, here.0) here.1 ∙ ap (λ n. n + here.0) (has k (column.0, then.0) then.1)
    ∙ ap (λ (both : List ℕ × ℕ). both.1) (same_Some (column.0, then.0 + here.0) column (sym now ∙ at))
  where
    from_sums : (k : ℕ) (column : List ℕ × ℕ) → slice_get (sums_of (take (i + 1) tallies)) k ≡ Some column
        → (number : ℕ) × (slice_get (columns_of (get_or tallies i d)) k ≡ Some (column.0, number))
    from_sums k column at = back_in columns (get_or tallies i d) (take (i + 1) tallies) k column at

-- the text of columns, one column on
columns_more : (line : List (List ℕ × ℕ)) (i : ℕ) (column : List ℕ × ℕ) → slice_get line i ≡ Some column → flat_map column_text (take (i + 1) line) ≡ flat_map column_text (take i line) ++ column_text column
columns_more line i column at =
    let lt : i < length line = slice_get_within line i column at in
    let here : get_or line i column ≡ column = cc (slice_get-get_or line i column lt) in
    ap (flat_map column_text) (take_more line i column lt) ∙ flat_map-append column_text (take i line) (get_or line i column ∷ [])
    ∙ ap (λ text. flat_map column_text (take i line) ++ text) (append-nil (column_text (get_or line i column)) ∙ ap column_text here)

-- a line up to a column
abbrev pub line_up_to : ℕ → List ℕ → List (List ℕ × ℕ) → List ℕ
line_up_to count label line = label ++ codes ":" ++ flat_map column_text (take count line)

-- a line up to the next column
pub line_more : (label : List ℕ) (line : List (List ℕ × ℕ)) (i : ℕ) (column : List ℕ × ℕ) (text next : List ℕ) → slice_get line i ≡ Some column
    → text ≡ line_up_to i label line → next ≡ text ++ column_text column → next ≡ line_up_to (i + 1) label line
line_more label line i column text next at so_far is =
    is ∙ ap (λ some. some ++ column_text column) so_far ∙ append_assoc (label ++ codes ":") (flat_map column_text (take i line)) (column_text column)
    ∙ ap (λ some. label ++ codes ":" ++ some) (sym (columns_more line i column at))

-- a line of all its columns
pub line_whole : (label : List ℕ) (line : List (List ℕ × ℕ)) (count : ℕ) (text next : List ℕ) → length line ≤ count
    → text ≡ line_up_to count label line → next ≡ text ++ codes "\n" → next ≡ line_text label line
line_whole label line count text next all so_far is =
    is ∙ ap (λ some. some ++ codes "\n") (so_far ∙ ap (λ columns. label ++ codes ":" ++ flat_map column_text columns) (take_all count line all))

-- the sums over one file are its columns
pub sums_of_one : (tally : Tally) → sums_of (tally ∷ []) ≡ columns_of tally
sums_of_one tally =
    let all : (f : Tally → ℕ) → sum_by f (tally ∷ []) ≡ f tally = λ f. omega (arith, sum_by-cons f tally []) in
    simp all
