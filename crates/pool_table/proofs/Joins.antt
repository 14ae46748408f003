-- Seats are made and joined under the rule.
use Rattle.std.proofs.Common.{◌≡◌, ◌≢◌, ℕ, ◌<◌, true, List, [], ◌∷◌, ◌++◌, sym, ap, ◌∙◌, subst, arith}
use Rattle.std.specs.Prelude.{slice_set}
use Rattle.std.proofs.lemmas.List.{set-get_or}
use mathlib.Core.Option.{some}
use lib.ListN.{get_elem?}
use Rattle.atomic_table.proofs.Lists.{set_else, set_again}
use Rattle.word_rule.specs.Moves.{Keeps, Splits, Joins, Learned, unchanged}
use Rattle.word_rule.proofs.Among.{left_is_among, right_is_among, after_is_among}
use Rattle.word_layout.specs.Sizes.{Sizes}
use Rattle.word_layout.specs.Names.{table_words, place}
use Rattle.word_layout.specs.declared.name.WordName.TheVariants.{State}
use Rattle.word_layout.proofs.Placed.{place_below}
use Rattle.pool_table.specs.Views.{SeatView, one_more_made, seat_of_process, left_by, left, right_by, right, takes_in}
use Rattle.pool_table.specs.Views.{both_by, both, spent, looked}
use Rattle.pool_table.specs.Rule.{Holds}
use Rattle.pool_table.specs.Steps.{Among}
use Rattle.pool_table.specs.Joins.{CanSplit, CanJoin, Joined}
use Rattle.pool_table.proofs.Seating.{split_keeps_numbered, join_keeps_numbered}

-- a table has a word
pub some_word : (sizes : Sizes) (words : ℕ) → words ≡ table_words sizes → 0 < words
unfolding place
some_word sizes words e = omega (arith, e, place_below sizes State tt)

-- the cases of a process's seat
pub left_of_process : (v : SeatView) → v.of_process ≡ true → left v ≡ one_more_made v
left_of_process v e = ap (λ is. left_by is v) e

-- a process's seat makes that of the next process, at its opening
pub right_of_process : (v : SeatView) → v.of_process ≡ true → right v ≡ seat_of_process v.sizes v.made 0
right_of_process v e = ap (λ is. right_by is v) e

-- a seat that takes in a process's seat gets its mind
pub both_of_process : (v w : SeatView) → w.of_process ≡ true → both v w ≡ takes_in w.mind v
both_of_process v w e = ap (λ is. both_by is v w) e

-- a seat is made
split_holds : (words : List ℕ) (views : List SeatView) (place : ℕ) (v : SeatView)
    → CanSplit v → Holds words views → get_elem? views place ≡ some v
    → Holds words (slice_set views place (one_more_made v) ++ seat_of_process v.sizes v.made 0 ∷ [])
split_holds words views place v can h at = record {
  sizes = h.sizes;
  minds = h.minds;
  history = h.history;
  holds = h.holds;
  numbered = split_keeps_numbered h.sizes h.minds views place v h.numbered at can.of_process can.first can.room;
}

-- a seat that may make one more does so within the rule
pub splits : (number : ℕ) (v : SeatView) → CanSplit v → Splits Holds number v (left v) (right v)
splits number v can = subst (λ is. Splits Holds number v (left_by is v) (right_by is v)) (sym can.of_process)
    (λ words views h at. split_holds words views number v can h at)

-- and is itself still among words and views of the rule
pub left_among : (v : SeatView) → CanSplit v → Among (one_more_made v)
left_among v can = subst Among (left_of_process v can.of_process)
    (left_is_among Holds v (left v) (right v) (λ number. splits number v can) can.among)

-- and so is the new seat
pub right_among : (v : SeatView) → CanSplit v → Among (seat_of_process v.sizes v.made 0)
right_among v can = subst Among (right_of_process v can.of_process)
    (right_is_among Holds v (left v) (right v) (λ number. splits number v can) can.among)

-- a seat takes in another one
join_holds : (words : List ℕ) (views : List SeatView) (place other : ℕ) (v w : SeatView) → CanJoin v w → Holds words views
    → get_elem? views place ≡ some v → other ≢ place → get_elem? (slice_set views place (takes_in w.mind v)) other ≡ some w
    → Holds words (slice_set (slice_set views place (takes_in w.mind v)) other spent)
join_holds words views place other v w can h at ne still =
    let there : get_elem? views other ≡ some w = sym (set_else views place other (takes_in w.mind v) ne) ∙ still in
    record {
      sizes = h.sizes;
      minds = h.minds;
      history = h.history;
      holds = h.holds;
      numbered = join_keeps_numbered h.sizes h.minds views place other v w h.numbered at can.of_process ne there can.other can.bare;
    }

-- a seat that may take in another one does so within the rule
pub joins : (number other : ℕ) (v w : SeatView) → CanJoin v w → Joins Holds number v other w (both v w) spent
joins number other v w can = subst (λ is. Joins Holds number v other w (both_by is v w) spent) (sym can.other)
    (λ words views h at ne still. join_holds words views number other v w can h at ne still)

-- a load that turns no view, as that after a join, leaves the words and the view
pub look_keeps : (number place : ℕ) (v : SeatView) → Keeps Holds number v place unchanged (λ _ _ u. looked u)
look_keeps number place v words views h at small = rw (set-get_or words place 0) (rw (set_again views number v at) h)

-- a load after a join tells the seat nothing new: it has both seats' minds, and is among words and views of the rule
pub joined : (number met : ℕ) (v w after : SeatView) → CanJoin v w
    → Learned Holds (λ _ _ u. looked u) number 0 unchanged (both v w) met after
    → Joined v w after
joined number met v w after can step = record {
  view = step.learned ∙ both_of_process v w can.other;
  among = after_is_among Holds (λ _ _ u. looked u) number 0 unchanged (both v w) met after step;
}
