-- Which process has which seat, once a seat is made and once a seat takes in another.
use Rattle.std.proofs.Common.{◌≡◌, ◌≢◌, ◌⊎◌, inl, inr, ⊎_elim, ℕ, zero, suc, ◌+◌, ◌<◌, ◌≤◌, ◌==◌, Bool, true, false}
use Rattle.std.proofs.Common.{List, [], ◌∷◌, ◌++◌, set, refl, sym, ap, ◌∙◌, subst, arith}
use Rattle.std.proofs.lemmas.Bool.{cases_eq}
use mathlib.Core.Option.{some}
use lib.ListN.{get_elem?}
use Rattle.atomic_table.proofs.Lists.{at_set, set_else, at_snoc}
use Rattle.word_layout.specs.Sizes.{Sizes}
use Rattle.pool_table.specs.Minds.{Mind, opening_mind, number_of}
use Rattle.pool_table.specs.Views.{SeatView, one_more_made, seat_of_process, spent, minds_of}
use Rattle.pool_table.specs.Rule.{Minds, EachMind, EachSeat, one_if, count_in, count_seated, IsSeated, Numbered}
use Rattle.pool_table.proofs.Numbered.{counts_for, counts_not, count_of_own, count_at, count_set, each_at, own_mind_is_seated}

-- how the count changes where one more seat comes, and where a seat has one more mind
count_more : (n : ℕ) (views : List SeatView) (new : SeatView)
    → count_seated n (views ++ new ∷ []) ≡ count_seated n views + count_in n (minds_of new)
count_more n [] new = omega arith
count_more n (v ∷ views) new = omega (arith, count_more n views new)

count_taken : (n : ℕ) (list : List Mind) (mind : Mind) → count_in n (list ++ mind ∷ []) ≡ count_in n list + one_if (number_of mind == n)
count_taken n [] mind = omega arith
count_taken n (first ∷ list) mind = omega (arith, count_taken n list mind)

-- a fact of all minds, where another follows from it
pub each_mind_becomes : (Fact New : Mind → Type 0) → ((mind : Mind) → Fact mind → New mind) → (list : List Mind) → EachMind Fact list
    → EachMind New list
each_mind_becomes Fact New becomes [] each = tt
each_mind_becomes Fact New becomes (mind ∷ list) each = (becomes mind each.0, each_mind_becomes Fact New becomes list each.1)

each_seat_becomes : (Fact New : Mind → Type 0) → ((mind : Mind) → Fact mind → New mind) → (views : List SeatView) → EachSeat Fact views
    → EachSeat New views
each_seat_becomes Fact New becomes [] each = tt
each_seat_becomes Fact New becomes (v ∷ views) each =
    (each_mind_becomes Fact New becomes (minds_of v) each.0, each_seat_becomes Fact New becomes views each.1)

-- a fact of all minds, where one seat's view becomes another, where one more seat comes, and where one more mind does
each_set : (Fact : Mind → Type 0) (place : ℕ) (views : List SeatView) (new : SeatView) → EachMind Fact (minds_of new) → EachSeat Fact views
    → EachSeat Fact (set views place new)
each_set Fact place [] new here each = each
each_set Fact zero (v ∷ views) new here each = (here, each.1)
each_set Fact (suc place) (v ∷ views) new here each = (each.0, each_set Fact place views new here each.1)

each_more : (Fact : Mind → Type 0) (views : List SeatView) (new : SeatView) → EachSeat Fact views → EachMind Fact (minds_of new)
    → EachSeat Fact (views ++ new ∷ [])
each_more Fact [] new each here = (here, tt)
each_more Fact (v ∷ views) new each here = (each.0, each_more Fact views new each.1 here)

each_taken : (Fact : Mind → Type 0) (list : List Mind) (mind : Mind) → EachMind Fact list → Fact mind → EachMind Fact (list ++ mind ∷ [])
each_taken Fact [] mind each here = (here, tt)
each_taken Fact (first ∷ list) mind each here = (each.0, each_taken Fact list mind each.1 here)

-- two seats of one process count twice
two_seats_count : (n one other : ℕ) (views : List SeatView) (v w : SeatView) → get_elem? views one ≡ some v → get_elem? views other ≡ some w
    → one ≢ other → v.of_process ≡ true → w.of_process ≡ true → number_of v.mind ≡ n → number_of w.mind ≡ n → 2 ≤ count_seated n views
two_seats_count n one other views v w at_one at_other ne e f is_v is_w =
    let left_out = count_set n other views w spent at_other in
    let more = count_at n one (set views other spent) v (set_else views other one spent ne ∙ at_one) in
    omega (arith, left_out, more, count_of_own n v e is_v, count_of_own n w f is_w)

-- no seat has the mind of a process whose seat wasn't made
none_counted_in : (seats : ℕ) (minds : Minds) (list : List Mind) → EachMind (IsSeated seats minds) list → count_in seats list ≡ 0
none_counted_in seats minds [] each = refl
none_counted_in seats minds (mind ∷ list) each =
    let more = none_counted_in seats minds list each.1 in
    let low = each.0.0 in
    omega (arith, more, counts_not (number_of mind) seats (λ e. omega arith))

none_counted : (seats : ℕ) (minds : Minds) (views : List SeatView) → EachSeat (IsSeated seats minds) views → count_seated seats views ≡ 0
none_counted seats minds [] each = refl
none_counted seats minds (v ∷ views) each =
    omega (arith, none_counted_in seats minds (minds_of v) each.0, none_counted seats minds views each.1)

-- each process whose seat was made counts once, and so does the next one
once_with_next : (n seats count : ℕ) → n < seats + 1 → (n < seats → count ≡ 1) → (n ≡ seats → count ≡ 0) → count + one_if (seats == n) ≡ 1
once_with_next n seats count low once none = elim (cases_eq n seats) [
  | inl e ↦ (let zero_yet = none e in omega (arith, zero_yet, counts_for seats n (sym e)))
  | inr ne ↦ (let one_yet = once (omega arith) in omega (arith, one_yet, counts_not seats n (λ e. ne (sym e))))
]

-- the seat of process 0 makes that of the next process
pub split_keeps_numbered : (sizes : Sizes) (minds : Minds) (views : List SeatView) (place : ℕ) (v : SeatView) → Numbered sizes minds views
    → get_elem? views place ≡ some v → v.of_process ≡ true → number_of v.mind ≡ 0 → v.made < v.sizes.processes
    → Numbered sizes minds (set views place (one_more_made v) ++ seat_of_process v.sizes v.made 0 ∷ [])
split_keeps_numbered sizes minds views place v numbered at e first room =
    let seats = numbered.seats in
    let kept = one_more_made v in
    let new = seat_of_process v.sizes v.made 0 in
    let made : v.made ≡ seats = numbered.counted place v at e first in
    let shape : v.sizes ≡ sizes = numbered.shaped place v at e in
    let Fact = IsSeated seats minds in
    let More = IsSeated (seats + 1) minds in
    let becomes : (mind : Mind) → Fact mind → More mind = λ mind is. (let low = is.0 in omega arith, is.1) in
    let here : EachMind More (minds_of v) =
    each_mind_becomes Fact More becomes (minds_of v) (each_at Fact place views v at numbered.each) in
    let opens : minds v.made ≡ opening_mind v.sizes v.made =
    numbered.unmade v.made (omega (arith, made)) ∙ ap (λ s. opening_mind s v.made) (sym shape) in
    let counts : (n : ℕ) → count_seated n (set views place kept ++ new ∷ []) ≡ count_seated n views + one_if (seats == n) = λ n.
    omega (arith, count_more n (set views place kept) new, count_set n place views v kept at, ap (λ k. one_if (k == n)) made) in
    -- a seat of a process is the one that makes, one of the others, or the new one
    let which : (j : ℕ) (w : SeatView) → get_elem? (set views place kept ++ new ∷ []) j ≡ some w
    → (kept ≡ w) ⊎ (((j ≢ place) × (get_elem? views j ≡ some w)) ⊎ (new ≡ w)) = λ j w b. ⊎_elim
    (λ (there : get_elem? (set views place kept) j ≡ some w). ⊎_elim
    (λ (is : (j ≡ place) × (kept ≡ w)). inl is.1)
    (λ (is : (j ≢ place) × (get_elem? views j ≡ some w)). inr (inl is))
    (at_set views place j kept w there))
    (λ (is : new ≡ w). inr (inr is))
    (at_snoc (set views place kept) new w j b) in
    record {
      seats = seats + 1;
      few = omega (arith, room, made, ap (λ (s : Sizes). s.processes) shape);
      each = each_more More (set views place kept) new
          (each_set More place views kept here (each_seat_becomes Fact More becomes views numbered.each))
          ((omega (arith, made), opens), tt);
      once = λ n low. counts n ∙ once_with_next n seats (count_seated n views) low (numbered.once n)
          (λ is. ap (λ k. count_seated k views) is ∙ none_counted seats minds views numbered.each);
      unmade = λ n le. numbered.unmade n (omega arith);
      counted = λ j w b process zeroth. ⊎_elim
          (λ (is : kept ≡ w). ap (λ (z : SeatView). z.made) (sym is) ∙ ap (λ k. k + 1) made)
          (λ rest. ⊎_elim
          (λ (is : (j ≢ place) × (get_elem? views j ≡ some w)).
          let low = (own_mind_is_seated sizes minds views place v numbered at e).0 in
          let twice = two_seats_count 0 j place views w v is.1 at is.0 process e zeroth first in
          absurd (omega (arith, twice, numbered.once 0 (omega (arith, low)))))
          (λ (is : new ≡ w).
          let low = (own_mind_is_seated sizes minds views place v numbered at e).0 in
          absurd (omega (arith, ap (λ (z : SeatView). number_of z.mind) is, zeroth, made, low)))
          rest)
          (which j w b);
      shaped = λ j w b process. ⊎_elim
          (λ (is : kept ≡ w). ap (λ (z : SeatView). z.sizes) (sym is) ∙ shape)
          (λ rest. ⊎_elim
          (λ (is : (j ≢ place) × (get_elem? views j ≡ some w)). numbered.shaped j w is.1 process)
          (λ (is : new ≡ w). ap (λ (z : SeatView). z.sizes) (sym is) ∙ shape)
          rest)
          (which j w b);
    }

-- the minds of a seat that has one more, and of one that has taken in none
minds_with_more : (v : SeatView) (mind : Mind) → v.of_process ≡ true
    → minds_of (record v { taken = v.taken ++ mind ∷ [] }) ≡ minds_of v ++ mind ∷ []
minds_with_more v mind e = rw e refl

one_mind : (v : SeatView) → v.of_process ≡ true → v.taken ≡ [] → minds_of v ≡ v.mind ∷ []
one_mind v e bare = rw (e, bare) refl

not_both : (is : Bool) → is ≡ true → is ≡ false → ⊥
not_both is e f = grind arith

-- a seat takes in that of another process, which leaves a spent one
pub join_keeps_numbered : (sizes : Sizes) (minds : Minds) (views : List SeatView) (place other : ℕ) (v w : SeatView)
    → Numbered sizes minds views → get_elem? views place ≡ some v → v.of_process ≡ true
    → other ≢ place → get_elem? views other ≡ some w → w.of_process ≡ true → w.taken ≡ []
    → Numbered sizes minds (set (set views place (record v { taken = v.taken ++ w.mind ∷ [] })) other spent)
join_keeps_numbered sizes minds views place other v w numbered at e ne there f bare =
    let seats = numbered.seats in
    let Fact = IsSeated seats minds in
    let new : SeatView = record v { taken = v.taken ++ w.mind ∷ [] } in
    let taking = set views place new in
    let still : get_elem? taking other ≡ some w = set_else views place other new ne ∙ there in
    let mine : EachMind Fact (minds_of new) = subst (EachMind Fact) (sym (minds_with_more v w.mind e))
    (each_taken Fact (minds_of v) w.mind (each_at Fact place views v at numbered.each)
    (own_mind_is_seated sizes minds views other w numbered there f)) in
    -- a seat of a process is the one that takes in, or one of those before
    let which : (j : ℕ) (u : SeatView) → get_elem? (set taking other spent) j ≡ some u → u.of_process ≡ true
    → (new ≡ u) ⊎ (get_elem? views j ≡ some u) = λ j u b process. ⊎_elim
    (λ (is : (j ≡ other) × (spent ≡ u)). absurd (not_both u.of_process process (ap (λ (z : SeatView). z.of_process) (sym is.1))))
    (λ (is : (j ≢ other) × (get_elem? taking j ≡ some u)). ⊎_elim
    (λ (it : (j ≡ place) × (new ≡ u)). inl it.1)
    (λ (it : (j ≢ place) × (get_elem? views j ≡ some u)). inr it.1)
    (at_set views place j new u is.1))
    (at_set taking other j spent u b) in
    record {
      seats = seats;
      few = numbered.few;
      each = each_set Fact other taking spent tt (each_set Fact place views new mine numbered.each);
      once = λ n low. omega (
        arith,
        numbered.once n low,
        count_set n place views v new at,
        count_set n other taking w spent still,
        ap (count_in n) (minds_with_more v w.mind e),
        count_taken n (minds_of v) w.mind,
        ap (count_in n) (one_mind w f bare),
      );
      unmade = numbered.unmade;
      counted = λ j u b process zeroth. ⊎_elim
          (λ (is : new ≡ u). ap (λ (z : SeatView). z.made) (sym is)
          ∙ numbered.counted place v at e (ap (λ (z : SeatView). number_of z.mind) is ∙ zeroth))
          (λ (is : get_elem? views j ≡ some u). numbered.counted j u is process zeroth)
          (which j u b process);
      shaped = λ j u b process. ⊎_elim
          (λ (is : new ≡ u). ap (λ (z : SeatView). z.sizes) (sym is) ∙ numbered.shaped place v at e)
          (λ (is : get_elem? views j ≡ some u). numbered.shaped j u is process)
          (which j u b process);
    }
