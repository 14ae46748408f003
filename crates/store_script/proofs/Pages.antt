-- Replies that are written page by page.
use Rattle.std.proofs.Common.{◌≡◌, ℕ, ◌+◌, ◌<◌, List, [], ◌∷◌, ◌++◌, length, take, drop, get_or, sym, ap, ◌∙◌, subst, append_assoc}
use Rattle.std.proofs.Common.{append-nil, Ok, Err}
use Rattle.std.specs.Prelude.{Result}
use Rattle.std.proofs.lemmas.List.{take_more, take-append-drop}
use Rattle.std.proofs.lemmas.Grind.{flat_map-append}
use Rattle.pool_io.specs.declared.sink.Sink.{Ghosts}
use Rattle.pool_io.specs.Writes.{Writes}
use Rattle.pool_io.proofs.Writing.{writes_nothing, writes_both, writes_part}
use Rattle.store_script.specs.declared.answered.Answered.{Answered}
use Rattle.store_script.specs.Text.{Flushes, reply_line, replies_text}

-- so much of the text of some replies is written, and the page has the rest
pub record IsPaged {K : Type 0} (E : Type 0) (sink : Ghosts K) (before now : K) (page text : List ℕ) : Type 0 where
  pub written : List ℕ
  pub writes : Writes {T = Unit {0}} {E = E} sink written before now (Ok tt)
  pub whole : text ≡ written ++ page

-- nothing is written, and the page has nothing
pub paged_none : {K E : Type 0} (sink : Ghosts K) (at : K) (page : List ℕ) → page ≡ [] → IsPaged E sink at at page []
paged_none sink at page nothing = record { written = []; writes = writes_nothing sink at tt; whole = sym nothing }

-- one more line
replies_text-more : (file : ℕ) (answers : List Answered) (i : ℕ) (d : Answered) → i < length answers
    → replies_text file (take (i + 1) answers) ≡ replies_text file (take i answers) ++ reply_line file (get_or answers i d)
replies_text-more file answers i d below =
    ap (replies_text file) (take_more answers i d below) ∙ flat_map-append (reply_line file) (take i answers) (get_or answers i d ∷ [])
    ∙ ap (λ text. replies_text file (take i answers) ++ text) (append-nil (reply_line file (get_or answers i d)))

module _ {K E : Type 0} (sink : Ghosts K) (before between after : K) (page : List ℕ) (file : ℕ) (answers : List Answered) (i : ℕ)
    (paged : IsPaged E sink before between page (replies_text file (take i answers))) where
  -- room was made, and the next line is on the page
  pub paged_more : (room next : List ℕ) (d : Answered) → i < length answers
      → Flushes {T = Unit {0}} {E = E} sink between after page room (Ok tt)
      → next ≡ room ++ reply_line file (get_or answers i d) → IsPaged E sink before after next (replies_text file (take (i + 1) answers))
  paged_more room next d below flushed is =
      let part = flushed.written in
      record {
        written = paged.written ++ part.0;
        writes = writes_both sink paged.written part.0 before between after tt (Ok tt) paged.writes part.1;
        whole =
            replies_text-more file answers i d below
            ∙ ap (λ text. text ++ reply_line file (get_or answers i d)) (paged.whole ∙ ap (λ text. paged.written ++ text) part.2)
            ∙ ap (λ text. text ++ reply_line file (get_or answers i d)) (sym (append_assoc paged.written part.0 room))
            ∙ append_assoc (paged.written ++ part.0) room (reply_line file (get_or answers i d))
            ∙ ap (λ text. (paged.written ++ part.0) ++ text) (sym is);
      }

  -- the page was written in part
  pub paged_part : (e e' : E) → Writes {T = Unit {0}} {E = E} sink page between after (Err e)
      → Writes {T = Unit {0}} {E = E} sink (replies_text file answers) before after (Err e')
  paged_part e e' part =
      let Text : List ℕ → Type 0 = λ text. Writes {T = Unit {0}} {E = E} sink text before after (Err e) in
      let Whole : List ℕ → Type 0 = λ text. Writes {T = Unit {0}} {E = E} sink text before after (Err e') in
      let all : replies_text file answers ≡ replies_text file (take i answers) ++ replies_text file (drop i answers) =
      ap (replies_text file) (sym (take-append-drop i answers)) ∙ flat_map-append (reply_line file) (take i answers) (drop i answers)
      in
      subst Whole (sym all)
      (writes_part sink (replies_text file (take i answers)) (replies_text file (drop i answers)) before after e e'
      (subst Text (sym paged.whole) (writes_both sink paged.written page before between after tt (Err e) paged.writes part)))

-- the last page
pub paged_all : {K E : Type 0} (sink : Ghosts K) (before between after : K) (page text : List ℕ) (result : Result (Unit {0}) E)
    → IsPaged E sink before between page text
    → Writes {T = Unit {0}} {E = E} sink page between after result → Writes {T = Unit {0}} {E = E} sink text before after result
paged_all {E = E} sink before between after page text result paged last =
    let Text : List ℕ → Type 0 = λ text. Writes {T = Unit {0}} {E = E} sink text before after result in
    subst Text (sym paged.whole) (writes_both sink paged.written page before between after tt result paged.writes last)
