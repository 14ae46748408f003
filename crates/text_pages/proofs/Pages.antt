-- A text that is written piece by piece.
use Rattle.std.proofs.Common.{◌≡◌, ℕ, List, [], ◌++◌, append-nil, refl, sym, ap, ◌∙◌, subst, append_assoc, Ok, Err}
use Rattle.std.specs.Prelude.{Result}
use Rattle.pool_io.specs.declared.sink.Sink.{Ghosts}
use Rattle.pool_io.specs.Writes.{Writes}
use Rattle.pool_io.proofs.Writing.{writes_nothing, writes_both, writes_part}
use Rattle.text_pages.specs.Pages.{Adds}

-- no text was added
pub adds_none : {K E : Type 0} (sink : Ghosts K) (at : K) (page : List ℕ) → Adds {T = Unit {0}} {E = E} sink [] at at page page (Ok tt)
adds_none sink at page = record {
  written = [];
  left = page;
  writes = writes_nothing sink at tt;
  whole = append-nil page;
  kept = refl;
}

-- a page without room for a piece was written in part: nothing of the piece was
pub adds_part : {K E : Type 0} (sink : Ghosts K) (piece page bytes new : List ℕ) (before after : K) (e e' : E) → bytes ≡ page
    → Writes {T = Unit {0}} {E = E} sink bytes before after (Err e)
    → Adds {T = Unit {0}} {E = E} sink piece before after page new (Err e')
adds_part {E = E} sink piece page bytes new before after e e' same part =
    let Part : List ℕ → Type 0 = λ all. Writes {T = Unit {0}} {E = E} sink all before after (Err e') in
    record {
      written = page;
      left = piece;
      writes = subst Part (append-nil bytes ∙ same) (writes_part sink bytes [] before after e e' part);
      whole = refl;
      kept = tt;
    }

module _ {K E : Type 0} (sink : Ghosts K) (first second : List ℕ) (before between after : K) (page middle new : List ℕ) where
  -- a text, and then another
  pub adds_both : (result : Result (Unit {0}) E) → Adds {T = Unit {0}} {E = E} sink first before between page middle (Ok tt)
      → Adds {T = Unit {0}} {E = E} sink second between after middle new result
      → Adds {T = Unit {0}} {E = E} sink (first ++ second) before after page new result
  adds_both result one two = record {
    written = one.written ++ two.written;
    left = two.left;
    writes = writes_both sink one.written two.written before between after tt result one.writes two.writes;
    whole =
        sym (append_assoc page first second)
        ∙ ap (λ all. all ++ second) one.whole
        ∙ append_assoc one.written one.left second
        ∙ ap (λ all. one.written ++ (all ++ second)) (sym one.kept)
        ∙ ap (λ all. one.written ++ all) two.whole
        ∙ sym (append_assoc one.written two.written two.left);
    kept = two.kept;
  }

-- a text failed: then so did a longer one
pub adds_no_more : {K E : Type 0} (sink : Ghosts K) (text more : List ℕ) (before after : K) (page new last : List ℕ) (e e' : E)
    → Adds {T = Unit {0}} {E = E} sink text before after page new (Err e)
    → Adds {T = Unit {0}} {E = E} sink (text ++ more) before after page last (Err e')
adds_no_more {E = E} sink text more before after page new last e e' one =
    let Part : List ℕ → Type 0 = λ all. Writes {T = Unit {0}} {E = E} sink all before after (Err e') in
    record {
      written = one.written;
      left = one.left ++ more;
      writes = subst Part (append-nil one.written) (writes_part sink one.written [] before after e e' one.writes);
      whole =
          sym (append_assoc page text more) ∙ ap (λ all. all ++ more) one.whole ∙ append_assoc one.written one.left more;
      kept = tt;
    }

-- a whole text is on an empty page or written, and then that page is
pub writes_all : {K E : Type 0} (sink : Ghosts K) (text : List ℕ) (before between after : K) (page : List ℕ) (result : Result (Unit {0}) E)
    → Adds {T = Unit {0}} {E = E} sink text before between [] page (Ok tt)
    → Writes {T = Unit {0}} {E = E} sink page between after result → Writes {T = Unit {0}} {E = E} sink text before after result
writes_all {E = E} sink text before between after page result one last =
    let Text : List ℕ → Type 0 = λ all. Writes {T = Unit {0}} {E = E} sink all before after result in
    subst Text (ap (λ all. one.written ++ all) one.kept ∙ sym one.whole)
    (writes_both sink one.written page before between after tt result one.writes last)

-- a part of a text was on an empty page, and failed
pub writes_no_more : {K E : Type 0} (sink : Ghosts K) (text more : List ℕ) (before after : K) (new : List ℕ) (e e' : E)
    → Adds {T = Unit {0}} {E = E} sink text before after [] new (Err e)
    → Writes {T = Unit {0}} {E = E} sink (text ++ more) before after (Err e')
writes_no_more {E = E} sink text more before after new e e' one =
    let Text : List ℕ → Type 0 = λ all. Writes {T = Unit {0}} {E = E} sink (all ++ more) before after (Err e') in
    let Whole : List ℕ → Type 0 = λ all. Writes {T = Unit {0}} {E = E} sink all before after (Err e') in
    subst Text (sym one.whole)
    (subst Whole (sym (append_assoc one.written one.left more)) (writes_part sink one.written
    (one.left ++ more) before after e e' one.writes))
