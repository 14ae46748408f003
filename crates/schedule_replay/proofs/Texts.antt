-- A text whose parts are added one after the other.
use Rattle.std.proofs.Common.{◌≡◌, ℕ, ◌+◌, ◌<◌, List, [], ◌∷◌, ◌++◌, length, take, drop, get_or, refl, sym, ap, ◌∙◌, subst, append_assoc}
use Rattle.std.proofs.Common.{append-nil, Ok, Err, arith}
use Rattle.std.specs.Prelude.{Result, flat_map}
use Rattle.std.proofs.lemmas.List.{take_more, take-append-drop, length-take-le}
use Rattle.std.proofs.lemmas.Grind.{flat_map-append}
use Rattle.pool_io.specs.declared.sink.Sink.{Ghosts}
use Rattle.pool_io.specs.Writes.{Writes}
use Rattle.text_pages.specs.Pages.{Adds}
use Rattle.text_pages.proofs.Pages.{adds_both, adds_no_more, writes_all, writes_no_more}
use Rattle.schedule_replay.specs.Text.{kept_line, kept_lines, tag_line}

-- one part more
parts_more : {A : Type 0} (part : A → List ℕ) (all : List A) (i : ℕ) (d : A) → i < length all
    → flat_map part (take (i + 1) all) ≡ flat_map part (take i all) ++ part (get_or all i d)
parts_more part all i d below =
    ap (flat_map part) (take_more all i d below) ∙ flat_map-append part (take i all) (get_or all i d ∷ [])
    ∙ ap (λ text. flat_map part (take i all) ++ text) (append-nil (part (get_or all i d)))

parts_whole : {A : Type 0} (part : A → List ℕ) (all : List A) (i : ℕ)
    → flat_map part all ≡ flat_map part (take i all) ++ flat_map part (drop i all)
parts_whole part all i = ap (flat_map part) (sym (take-append-drop i all)) ∙ flat_map-append part (take i all) (drop i all)

module _ {K E A : Type 0} (sink : Ghosts K) (part : A → List ℕ) (all : List A) (i : ℕ) (before between after : K) (page middle new : List ℕ)
    (below : i < length all)
    (added : Adds {T = Unit {0}} {E = E} sink (flat_map part (take i all)) before between page middle (Ok tt)) where
  -- the next part is added
  pub adds_part_more : (piece : List ℕ) (d : A) → piece ≡ part (get_or all i d)
      → Adds {T = Unit {0}} {E = E} sink piece between after middle new (Ok tt)
      → Adds {T = Unit {0}} {E = E} sink (flat_map part (take (i + 1) all)) before after page new (Ok tt)
  adds_part_more piece d is next =
      let Text : List ℕ → Type 0 = λ text. Adds {T = Unit {0}} {E = E} sink text before after page new (Ok tt) in
      subst Text (ap (λ text. flat_map part (take i all) ++ text) is ∙ sym (parts_more part all i d below))
      (adds_both sink (flat_map part (take i all)) piece before between after page middle new (Ok tt) added next)

  -- or fails, and all parts with it
  pub adds_parts_failed : (piece : List ℕ) (d : A) (last : List ℕ) (e e' : E) → piece ≡ part (get_or all i d)
      → Adds {T = Unit {0}} {E = E} sink piece between after middle new (Err e)
      → Adds {T = Unit {0}} {E = E} sink (flat_map part all) before after page last (Err e')
  adds_parts_failed piece d last e e' is next =
      let Text : List ℕ → Type 0 = λ text. Adds {T = Unit {0}} {E = E} sink text before after page last (Err e') in
      subst Text same
      (adds_no_more sink (flat_map part (take i all) ++ piece) (flat_map part (drop (i + 1) all)) before after page new last e e'
      (adds_both sink (flat_map part (take i all)) piece before between after page middle new (Err e) added next))
    where
      same : (flat_map part (take i all) ++ piece) ++ flat_map part (drop (i + 1) all) ≡ flat_map part all
      same =
          ap (λ text. (flat_map part (take i all) ++ text) ++ flat_map part (drop (i + 1) all)) is
          ∙ ap (λ text. text ++ flat_map part (drop (i + 1) all)) (sym (parts_more part all i d below))
          ∙ sym (parts_whole part all (i + 1))

-- the lines of more processes
kept_more : (process : ℕ) (first second : List ℕ)
    → kept_lines process (first ++ second) ≡ kept_lines process first ++ kept_lines (process + length first) second
kept_more process [] second = ap (λ n. kept_lines n second) (omega arith)
kept_more process (blocks ∷ first) second =
    ap (λ text. kept_line process blocks ++ text)
    (kept_more (process + 1) first second
    ∙ ap (λ n. kept_lines (process + 1) first ++ kept_lines n second) (omega arith))
    ∙ sym (append_assoc (kept_line process blocks) (kept_lines (process + 1) first) _)

kept_next : (kept : List ℕ) (i : ℕ) (d : ℕ) → i < length kept
    → kept_lines 0 (take (i + 1) kept) ≡ kept_lines 0 (take i kept) ++ kept_line i (get_or kept i d)
kept_next kept i d below =
    ap (kept_lines 0) (take_more kept i d below)
    ∙ kept_more 0 (take i kept) (get_or kept i d ∷ [])
    ∙ ap (λ n. kept_lines 0 (take i kept) ++ (kept_line n (get_or kept i d) ++ [])) here
    ∙ ap (λ text. kept_lines 0 (take i kept) ++ text) (append-nil (kept_line i (get_or kept i d)))
  where
    here : 0 + length (take i kept) ≡ i
    here = omega (arith, length-take-le i kept (omega (arith, below)))

module _ {K E : Type 0} (sink : Ghosts K) (kept : List ℕ) (i : ℕ) (before between after : K) (page middle new : List ℕ)
    (below : i < length kept)
    (added : Adds {T = Unit {0}} {E = E} sink (kept_lines 0 (take i kept)) before between page middle (Ok tt)) where
  -- the next process's line is added
  pub adds_kept_more : (piece : List ℕ) (d : ℕ) → piece ≡ kept_line i (get_or kept i d)
      → Adds {T = Unit {0}} {E = E} sink piece between after middle new (Ok tt)
      → Adds {T = Unit {0}} {E = E} sink (kept_lines 0 (take (i + 1) kept)) before after page new (Ok tt)
  adds_kept_more piece d is next =
      let Text : List ℕ → Type 0 = λ text. Adds {T = Unit {0}} {E = E} sink text before after page new (Ok tt) in
      subst Text (ap (λ text. kept_lines 0 (take i kept) ++ text) is ∙ sym (kept_next kept i d below))
      (adds_both sink (kept_lines 0 (take i kept)) piece before between after page middle new (Ok tt) added next)

  -- or fails, and all lines with it
  pub adds_kept_failed : (piece : List ℕ) (d : ℕ) (last : List ℕ) (e e' : E) → piece ≡ kept_line i (get_or kept i d)
      → Adds {T = Unit {0}} {E = E} sink piece between after middle new (Err e)
      → Adds {T = Unit {0}} {E = E} sink (kept_lines 0 kept) before after page last (Err e')
  adds_kept_failed piece d last e e' is next =
      let Text : List ℕ → Type 0 = λ text. Adds {T = Unit {0}} {E = E} sink text before after page last (Err e') in
      subst Text same
      (adds_no_more sink (kept_lines 0 (take i kept) ++ piece) rest before after page new last e e'
      (adds_both sink (kept_lines 0 (take i kept)) piece before between after page middle new (Err e) added next))
    where
      rest : List ℕ
      rest = kept_lines (0 + length (take (i + 1) kept)) (drop (i + 1) kept)

      same : (kept_lines 0 (take i kept) ++ piece) ++ rest ≡ kept_lines 0 kept
      same =
          ap (λ text. (kept_lines 0 (take i kept) ++ text) ++ rest) is
          ∙ ap (λ text. text ++ rest) (sym (kept_next kept i d below))
          ∙ sym (kept_more 0 (take (i + 1) kept) (drop (i + 1) kept))
          ∙ ap (kept_lines 0) (take-append-drop (i + 1) kept)

-- a text fails where one of its parts does
pub text_failed : {K E : Type 0} (sink : Ghosts K) (past piece more whole : List ℕ) (before between after : K)
    (page middle new : List ℕ) (e e' : E)
    → page ≡ [] → (past ++ piece) ++ more ≡ whole
    → Adds {T = Unit {0}} {E = E} sink past before between page middle (Ok tt)
    → Adds {T = Unit {0}} {E = E} sink piece between after middle new (Err e)
    → Writes {T = Unit {0}} {E = E} sink whole before after (Err e')
text_failed {E = E} sink past piece more whole before between after page middle new e e' empty is one two =
    let Text : List ℕ → Type 0 = λ text. Writes {T = Unit {0}} {E = E} sink text before after (Err e') in
    let From : List ℕ → Type 0 = λ start. Adds {T = Unit {0}} {E = E} sink (past ++ piece) before after start new (Err e) in
    subst Text is
    (writes_no_more sink (past ++ piece) more before after new e e'
    (subst From empty (adds_both sink past piece before between after page middle new (Err e) one two)))

-- the line of the state's number, where a piece is that
pub tagged : {K E : Type 0} (sink : Ghosts K) (tag : ℕ) (piece : List ℕ) (before after : K) (page new : List ℕ) (result : Result
    (Unit {0}) E)
    → piece ≡ tag_line tag → Adds {T = Unit {0}} {E = E} sink piece before after page new result
    → Adds {T = Unit {0}} {E = E} sink (tag_line tag) before after page new result
tagged {E = E} sink tag piece before after page new result is adds =
    let Text : List ℕ → Type 0 = λ text. Adds {T = Unit {0}} {E = E} sink text before after page new result in
    subst Text is adds

-- a text that was added to an empty page is written with that page
pub text_written : {K E : Type 0} (sink : Ghosts K) (text : List ℕ) (before between after : K) (page last : List ℕ) (result : Result
    (Unit {0}) E)
    → page ≡ [] → Adds {T = Unit {0}} {E = E} sink text before between page last (Ok tt)
    → Writes {T = Unit {0}} {E = E} sink last between after result → Writes {T = Unit {0}} {E = E} sink text before after result
text_written {E = E} sink text before between after page last result empty adds writes =
    let From : List ℕ → Type 0 = λ start. Adds {T = Unit {0}} {E = E} sink text before between start last (Ok tt) in
    writes_all sink text before between after last result (subst From empty adds) writes

-- four texts, one behind the other
pub four_texts : (a b c d : List ℕ) → a ++ (b ++ (c ++ d)) ≡ ((a ++ b) ++ c) ++ d
four_texts a b c d = sym (append_assoc (a ++ b) c d ∙ append_assoc a b (c ++ d))
