-- which process has which seat, at a step: seats are found by the number in their views
use Rattle.std.proofs.Common.{◌≡◌, ◌≢◌, ⊎_elim, ℕ, zero, suc, ◌+◌, ◌<◌, ◌≤◌, ◌==◌, true}
use Rattle.std.proofs.Common.{List, [], ◌∷◌, set, refl, sym, ap, ◌∙◌, subst, arith, eq-eqb, ne_eqb}
use Rattle.std.specs.Prelude.{if◌then◌else◌}
use Rattle.std.proofs.lemmas.Bool.Decides.{nat_tests}
use mathlib.Core.Option.{some, some-injective, some-ne-none}
use lib.ListN.{get_elem?}
use Rattle.atomic_table.proofs.Lists.{at_set}
use Rattle.word_layout.specs.Sizes.{Sizes}
use Rattle.pool_table.specs.Minds.{Mind, number_of}
use Rattle.pool_table.specs.Views.{SeatView, minds_of}
use Rattle.pool_table.specs.Rule.{Minds, EachMind, EachSeat, one_if, count_in, count_seated, IsSeated, Numbered}

-- the minds once that of process i has become another
abbrev pub moved : ℕ → Mind → Minds → Minds
moved i mind minds = λ o. if o == i then mind else minds o

-- that of process i is the new one
pub moved_here : (i : ℕ) (mind : Mind) (minds : Minds) → moved i mind minds i ≡ mind
moved_here i mind minds = rw (eq-eqb i i refl) refl

-- that of any other process is as it was
pub moved_elsewhere : (i o : ℕ) (mind : Mind) (minds : Minds) → o ≢ i → moved i mind minds o ≡ minds o
moved_elsewhere i o mind minds ne = rw (ne_eqb o i ne) refl

-- a mind counts for its own process alone
pub counts_for : (a b : ℕ) → a ≡ b → one_if (a == b) ≡ 1
counts_for a b e = grind (arith, nat_tests)

-- the mind of another process doesn't count
pub counts_not : (a b : ℕ) → a ≢ b → one_if (a == b) ≡ 0
counts_not a b ne = grind (arith, nat_tests)

-- and one that doesn't count is of another process
pub not_counted : (a b : ℕ) → one_if (a == b) ≡ 0 → a ≢ b
not_counted a b e = λ same. grind (arith, nat_tests)

-- the minds of a process's seat, its own first
pub own_mind_first : (v : SeatView) → v.of_process ≡ true → minds_of v ≡ v.mind ∷ v.taken
own_mind_first v e = rw e refl

-- the mind of a process's seat counts once for its process, besides those that it took in
pub count_of_own : (n : ℕ) (v : SeatView) → v.of_process ≡ true → number_of v.mind ≡ n → count_in n (minds_of v) ≡ 1 + count_in n v.taken
count_of_own n v e is =
    ap (count_in n) (own_mind_first v e) ∙ ap (λ one. one + count_in n v.taken) (counts_for (number_of v.mind) n is)

-- one seat has no more minds of a process than all seats have
pub count_at : (n place : ℕ) (views : List SeatView) (v : SeatView) → get_elem? views place ≡ some v
    → count_in n (minds_of v) ≤ count_seated n views
count_at n place [] v e = absurd (some-ne-none v (sym e))
count_at n zero (w ∷ views) v e = subst (λ z. count_in n (minds_of z) ≤ count_seated n (w ∷ views)) (some-injective w v e) (omega arith)
count_at n (suc place) (w ∷ views) v e = let more = count_at n place views v e in omega arith

-- how the count changes where one seat's view becomes another
pub count_set : (n place : ℕ) (views : List SeatView) (v new : SeatView) → get_elem? views place ≡ some v
    → count_seated n (set views place new) + count_in n (minds_of v) ≡ count_seated n views + count_in n (minds_of new)
count_set n place [] v new e = absurd (some-ne-none v (sym e))
count_set n zero (w ∷ views) v new e = let same = ap (λ z. count_in n (minds_of z)) (some-injective w v e) in omega (arith, same)
count_set n (suc place) (w ∷ views) v new e = omega (arith, count_set n place views v new e)

-- the minds of a seat are among those of all seats
pub each_at : (Fact : Mind → Type 0) (place : ℕ) (views : List SeatView) (v : SeatView) → get_elem? views place ≡ some v
    → EachSeat Fact views → EachMind Fact (minds_of v)
each_at Fact place [] v e each = absurd (some-ne-none v (sym e))
each_at Fact zero (w ∷ views) v e each = subst (λ z. EachMind Fact (minds_of z)) (some-injective w v e) each.0
each_at Fact (suc place) (w ∷ views) v e each = each_at Fact place views v e each.1

-- the minds of a process's seat, its own first, are those of processes whose seats were made
pub minds_are_seated : (sizes : Sizes) (minds : Minds) (views : List SeatView) (place : ℕ) (v : SeatView)
    → (numbered : Numbered sizes minds views) → get_elem? views place ≡ some v → v.of_process ≡ true
    → EachMind (IsSeated numbered.seats minds) (v.mind ∷ v.taken)
minds_are_seated sizes minds views place v numbered at e =
    let Fact = IsSeated numbered.seats minds in
    subst (EachMind Fact) (own_mind_first v e) (each_at Fact place views v at numbered.each)

-- the own mind of a process's seat is that of the process with its number, whose seat was made
pub own_mind_is_seated : (sizes : Sizes) (minds : Minds) (views : List SeatView) (place : ℕ) (v : SeatView)
    → (numbered : Numbered sizes minds views) → get_elem? views place ≡ some v → v.of_process ≡ true
    → IsSeated numbered.seats minds v.mind
own_mind_is_seated sizes minds views place v numbered at e = (minds_are_seated sizes minds views place v numbered at e).0

-- where the mind of process n becomes another, minds of other processes stay
others_stay_in : (seats n : ℕ) (mind : Mind) (minds : Minds) (list : List Mind) → count_in n list ≡ 0
    → EachMind (IsSeated seats minds) list → EachMind (IsSeated seats (moved n mind minds)) list
others_stay_in seats n mind minds [] none each = tt
others_stay_in seats n mind minds (first ∷ list) none each =
    let ne = not_counted (number_of first) n (omega arith) in
    ((each.0.0, moved_elsewhere n (number_of first) mind minds ne ∙ each.0.1), others_stay_in seats n mind minds list (omega arith) each.1)

others_stay : (seats n : ℕ) (mind : Mind) (minds : Minds) (views : List SeatView) → count_seated n views ≡ 0
    → EachSeat (IsSeated seats minds) views → EachSeat (IsSeated seats (moved n mind minds)) views
others_stay seats n mind minds [] none each = tt
others_stay seats n mind minds (v ∷ views) none each =
    (others_stay_in seats n mind minds (minds_of v) (omega arith) each.0, others_stay seats n mind minds views (omega arith) each.1)

-- the seat of the process has the new mind, and those that it took in stay
own_moved : (seats : ℕ) (mind : Mind) (minds : Minds) (v : SeatView) → v.of_process ≡ true → number_of mind < seats
    → count_in (number_of mind) v.taken ≡ 0 → EachMind (IsSeated seats minds) (minds_of v)
    → EachMind (IsSeated seats (moved (number_of mind) mind minds)) (minds_of (record v { mind = mind }))
own_moved seats mind minds v e low none each =
    let n = number_of mind in
    let old : EachMind (IsSeated seats minds) (v.mind ∷ v.taken) = subst (EachMind (IsSeated seats minds)) (own_mind_first v e) each in
    subst (EachMind (IsSeated seats (moved n mind minds))) (sym (own_mind_first (record v { mind = mind }) e))
    ((low, moved_here n mind minds), others_stay_in seats n mind minds v.taken none old.1)

each_stepped : (seats place : ℕ) (mind : Mind) (minds : Minds) (views : List SeatView) (v : SeatView)
    → get_elem? views place ≡ some v → v.of_process ≡ true → number_of mind ≡ number_of v.mind → number_of mind < seats
    → count_seated (number_of mind) views ≡ 1 → EachSeat (IsSeated seats minds) views
    → EachSeat (IsSeated seats (moved (number_of mind) mind minds)) (set views place (record v { mind = mind }))
each_stepped seats place mind minds [] v at e same low once each = absurd (some-ne-none v (sym at))
each_stepped seats zero mind minds (w ∷ views) v at e same low once each =
    let n = number_of mind in
    let is : w ≡ v = some-injective w v at in
    let own = count_of_own n v e (sym same) in
    let there : count_in n (minds_of w) ≡ count_in n (minds_of v) = ap (λ z. count_in n (minds_of z)) is in (
      own_moved seats mind minds v e low (omega (arith, own, there)) (subst (λ z. EachMind (IsSeated seats minds) (minds_of z)) is each.0),
      others_stay seats n mind minds views (omega (arith, own, there)) each.1,
    )
each_stepped seats (suc place) mind minds (w ∷ views) v at e same low once each =
    let n = number_of mind in
    let there = count_at n place views v at in
    let own = count_of_own n v e (sym same) in (
      others_stay_in seats n mind minds (minds_of w) (omega (arith, there, own)) each.0,
      each_stepped seats place mind minds views v at e same low (omega (arith, there, own)) each.1,
    )

-- a step of a seat: the mind of its process becomes another of the same process
pub step_keeps_numbered : (sizes : Sizes) (minds : Minds) (views : List SeatView) (place : ℕ) (v : SeatView) (mind : Mind)
    → Numbered sizes minds views → get_elem? views place ≡ some v → v.of_process ≡ true → number_of mind ≡ number_of v.mind
    → Numbered sizes (moved (number_of mind) mind minds) (set views place (record v { mind = mind }))
step_keeps_numbered sizes minds views place v mind numbered at e same =
    let n = number_of mind in
    let here = own_mind_is_seated sizes minds views place v numbered at e in
    let low : n < numbered.seats = omega (arith, here.0, same) in
    let new : SeatView = record v { mind = mind } in
    record {
      seats = numbered.seats;
      few = numbered.few;
      each = each_stepped numbered.seats place mind minds views v at e same low (numbered.once n low) numbered.each;
      once = λ o lo. omega (
        arith,
        numbered.once o lo,
        count_set o place views v new at,
        ap (count_in o) (own_mind_first v e),
        ap (count_in o) (own_mind_first new e),
        ap (λ k. one_if (k == o)) same,
      );
      unmade = λ o le. moved_elsewhere n o mind minds (λ is. omega arith) ∙ numbered.unmade o le;
      counted = λ j w b process zeroth. ⊎_elim
          (λ (is : (j ≡ place) × (new ≡ w)). ap (λ (z : SeatView). z.made) (sym is.1)
          ∙ numbered.counted place v at e (sym same ∙ (ap (λ (z : SeatView). number_of z.mind) is.1 ∙ zeroth)))
          (λ (is : (j ≢ place) × (get_elem? views j ≡ some w)). numbered.counted j w is.1 process zeroth)
          (at_set views place j new w b);
      shaped = λ j w b process. ⊎_elim
          (λ (is : (j ≡ place) × (new ≡ w)). ap (λ (z : SeatView). z.sizes) (sym is.1) ∙ numbered.shaped place v at e)
          (λ (is : (j ≢ place) × (get_elem? views j ≡ some w)). numbered.shaped j w is.1 process)
          (at_set views place j new w b);
    }
