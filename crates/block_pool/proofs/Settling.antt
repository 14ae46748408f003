-- What the joined seat tells is what all passes told.
use Rattle.std.proofs.Common.{◌≡◌, ◌≢◌, ℕ, zero, suc, ◌+◌, ◌<◌, ◌≤◌, ◌==◌, List, [], ◌∷◌, length, take, map, Some, refl, sym, ap, ◌∙◌}
use Rattle.std.proofs.Common.{subst, inl, inr, arith, eq-eqb, ne_eqb, length-append}
use Rattle.std.specs.Prelude.{if◌then◌else◌, slice_get, count_by}
use Rattle.std.specs.List.{AllByRecursion}
use Rattle.std.proofs.lemmas.Bool.{cases_lt}
use Rattle.std.proofs.lemmas.List.Sums.{sum_by-cons}
use Rattle.std.proofs.lemmas.List.Elements.{All-from_recursion}
use Rattle.word_layout.specs.Sizes.{Sizes}
use Rattle.pool_model.specs.History.{own}
use Rattle.pool_model.proofs.Places.{slice_get-append, slice_get-push}
use Rattle.pool_table.specs.Minds.{Mind, number_of}
use Rattle.pool_table.specs.Views.{SeatView, longest_in}
use Rattle.pool_table.specs.Rule.{EachMind, one_if, count_in}
use Rattle.pool_table.specs.Settled.{FitsIn}
use Rattle.pool_table.proofs.Numbered.{counts_for}
use Rattle.pool_table.proofs.Seating.{each_mind_becomes}
use Rattle.pool_seats.specs.Settling.{HasEachOnce, AllFit}
use Rattle.pool_seats.proofs.Settling.{all_seats_fit}
use Rattle.block_pool.specs.Passing.{Pooled, Passed}
use Rattle.block_pool.specs.Closing.{AreAllPasses, Settlement, FitsPass, IsClosed, moves_in, moves_by, settlement_of, SettledFits}
use Rattle.block_pool.specs.Joining.{Told, told_by_mind, told_by_pass, HasJoined}

-- the first of two equal lists, and the rest
same_first : {X : Type 0} (x y : X) (xs ys : List X) → x ∷ xs ≡ y ∷ ys → x ≡ y
same_first x y xs ys e = cc

same_rest : {X : Type 0} (x y : X) (xs ys : List X) → x ∷ xs ≡ y ∷ ys → xs ≡ ys
same_rest x y xs ys e = cc

-- as many minds as passes are those of a process
one_counted : (number n : ℕ) (pass : Passed) (passes : List Passed) → number ≡ pass.number
    → count_by (λ p. p.number == n) (pass ∷ passes) ≡ one_if (number == n) + count_by (λ p. p.number == n) passes
one_counted number n pass passes e = sum_by-cons (λ (p : Passed). if p.number == n then 1 else 0) pass passes
    ∙ ap (λ k. one_if (k == n) + count_by (λ p. p.number == n) passes) (sym e)

count_told : (n : ℕ) (minds : List Mind) (passes : List Passed) → map told_by_mind minds ≡ map told_by_pass passes
    → count_in n minds ≡ count_by (λ pass. pass.number == n) passes
count_told n [] [] e = refl
count_told n [] (pass ∷ passes) e = absurd (cc)
count_told n (mind ∷ minds) [] e = absurd (cc)
count_told n (mind ∷ minds) (pass ∷ passes) e =
    let first = ap (λ (t : Told). t.number)
    (same_first (told_by_mind mind) (told_by_pass pass) (map told_by_mind minds) (map told_by_pass passes) e) in
    let more = count_told n minds passes
    (same_rest (told_by_mind mind) (told_by_pass pass) (map told_by_mind minds) (map told_by_pass passes) e) in
    omega (arith, more, one_counted (number_of mind) n pass passes first)

-- the moves of each process, by its number
moves_length : (n : ℕ) (minds : List Mind) → length (moves_by n minds) ≡ n
moves_length zero minds = refl
moves_length (suc n) minds = omega (arith, moves_length n minds, length-append (moves_by n minds) (moves_in n minds ∷ []))

moves_at : (count n : ℕ) (minds : List Mind) → n < count → slice_get (moves_by count minds) n ≡ Some (moves_in n minds)
moves_at zero n minds low = absurd (omega arith)
moves_at (suc count) n minds low = elim (cases_lt n count) [
  | inl less ↦
      let within : n < length (moves_by count minds) = omega (arith, moves_length count minds) in
      slice_get-append (moves_by count minds) (moves_in count minds ∷ []) n within ∙ moves_at count n minds less
  | inr ge ↦
      let last : n ≡ count = omega arith in
      let place : n ≡ length (moves_by count minds) = omega (arith, moves_length count minds) in
      ap (slice_get (moves_by (suc count) minds)) place ∙ slice_get-push (moves_by count minds) (moves_in count minds)
      ∙ ap (λ k. Some (moves_in k minds)) (sym last)
]

-- a mind among these, whose moves are those of its process
record IsFound (processes : ℕ) (minds : List Mind) (mind : Mind) : Type 0 where
  low : number_of mind < processes
  there : 1 ≤ count_in (number_of mind) minds
  moves : moves_in (number_of mind) minds ≡ mind.moves

first_found : (processes : ℕ) (first : Mind) (minds : List Mind) → number_of first < processes → IsFound processes (first ∷ minds) first
first_found processes first minds low = record {
  low = low;
  there = omega (arith, counts_for (number_of first) (number_of first) refl);
  moves = rw (eq-eqb (number_of first) (number_of first) refl) refl;
}

still_found : (processes : ℕ) (first : Mind) (minds : List Mind)
    → ((n : ℕ) → n < processes → count_in n (first ∷ minds) ≤ 1)
    → (mind : Mind) → IsFound processes minds mind → IsFound processes (first ∷ minds) mind
still_found processes first minds once mind found =
    let low = found.low in
    let there = found.there in
    let other : number_of first ≢ number_of mind =
    λ same. absurd (omega (arith, once (number_of mind) low, counts_for (number_of first) (number_of mind) same)) in
    record { low = low; there = omega (arith, there); moves = rw (ne_eqb (number_of first) (number_of mind) other) found.moves }

all_found : (processes : ℕ) (minds : List Mind) → EachMind (λ mind. number_of mind < processes) minds
    → ((n : ℕ) → n < processes → count_in n minds ≤ 1) → EachMind (IsFound processes minds) minds
all_found processes [] low once = tt
all_found processes (first ∷ minds) low once = (
  first_found processes first minds low.0,
  each_mind_becomes (IsFound processes minds) (IsFound processes (first ∷ minds)) (still_found processes first minds once) minds
      (all_found processes minds low.1 (λ n small. let one = once n small in omega (arith, one))),
)

-- two facts of all minds
both_facts : (Fact More : Mind → Type 0) (minds : List Mind) → EachMind Fact minds → EachMind More minds
    → EachMind (λ mind. Fact mind × More mind) minds
both_facts Fact More [] each more = tt
both_facts Fact More (mind ∷ minds) each more = ((each.0, more.0), both_facts Fact More minds each.1 more.1)

-- the settlement fits what is told of a process
record FitsTold (settled : Settlement) (told : Told) : Type 0 where
  moves : slice_get settled.moves told.number ≡ Some told.moves
  entries : own settled.history told.number ≡ told.own
  begins : take (length told.seen) settled.history ≡ told.seen

fits_mind : (sizes : Sizes) (all : List Mind) (mind : Mind)
    → IsFound sizes.processes all mind × FitsIn (longest_in all) mind
    → FitsTold (record { sizes = sizes; moves = moves_by sizes.processes all; history = longest_in all }) (told_by_mind mind)
fits_mind sizes all mind facts =
    let found = facts.0 in
    let fits = facts.1 in
    record {
      moves = moves_at sizes.processes (number_of mind) all found.low ∙ ap Some found.moves;
      entries = fits.entries;
      begins = fits.begins;
    }

fits_pass : (settled : Settlement) (told : Told) (pass : Passed) → told ≡ told_by_pass pass → FitsTold settled told → FitsPass settled pass
fits_pass settled told pass e fits =
    let here = subst (FitsTold settled) e fits in
    record { moves = here.moves; entries = here.entries; begins = here.begins }

-- and so each pass
fits_passes : (settled : Settlement) (minds : List Mind) (passes : List Passed) → map told_by_mind minds ≡ map told_by_pass passes
    → EachMind (λ mind. FitsTold settled (told_by_mind mind)) minds → AllByRecursion (FitsPass settled) passes
fits_passes settled [] [] e each = tt
fits_passes settled [] (pass ∷ passes) e each = absurd (cc)
fits_passes settled (mind ∷ minds) [] e each = absurd (cc)
fits_passes settled (mind ∷ minds) (pass ∷ passes) e each = (
  fits_pass settled (told_by_mind mind) pass
      (same_first (told_by_mind mind) (told_by_pass pass) (map told_by_mind minds) (map told_by_pass passes) e) each.0,
  fits_passes settled minds passes
      (same_rest (told_by_mind mind) (told_by_pass pass) (map told_by_mind minds) (map told_by_pass passes) e) each.1,
)

-- all minds fit, by the seat that has taken in those of all passes
joined_fit : (pool : Pooled) (passes : List Passed) (v : SeatView) (holding : ℕ) → AreAllPasses pool passes
    → HasJoined pool passes v holding → AllFit pool.sizes (v.mind ∷ v.taken)
joined_fit pool passes v holding all joined =
    let minds = v.mind ∷ v.taken in
    let once : HasEachOnce pool.sizes.processes minds = λ n low. count_told n minds passes joined.minds ∙ all.once n low in
    subst (λ sizes. AllFit sizes minds) joined.sizes
    (all_seats_fit v joined.among joined.of_process (subst (λ (s : Sizes). HasEachOnce s.processes minds) (sym joined.sizes) once))

-- the pool is closed with these passes
pub is_closed : (pool : Pooled) (passes : List Passed) (v : SeatView) (holding : ℕ) → AreAllPasses pool passes
    → HasJoined pool passes v holding → IsClosed pool passes (settlement_of pool.sizes v)
is_closed pool passes v holding all joined =
    let minds = v.mind ∷ v.taken in
    let settled = settlement_of pool.sizes v in
    let fit = joined_fit pool passes v holding all joined in
    let found = all_found pool.sizes.processes minds fit.low
    (λ n low. let one = count_told n minds passes joined.minds ∙ all.once n low in omega (arith, one)) in
    let each = each_mind_becomes (λ mind. IsFound pool.sizes.processes minds mind × FitsIn (longest_in minds) mind)
    (λ mind. FitsTold settled (told_by_mind mind)) (fits_mind pool.sizes minds) minds
    (both_facts (IsFound pool.sizes.processes minds) (FitsIn (longest_in minds)) minds found fit.each) in
    record {
      shape = refl;
      legal = fit.legal;
      each = All-from_recursion (FitsPass settled) passes (fits_passes settled minds passes joined.minds each);
    }

-- what it keeps is so
pub settled_fits : (pool : Pooled) (passes : List Passed) (v : SeatView) (holding : ℕ) → AreAllPasses pool passes
    → HasJoined pool passes v holding → SettledFits (settlement_of pool.sizes v) holding
settled_fits pool passes v holding all joined =
    let fit = joined_fit pool passes v holding all joined in
    record { legal = fit.legal; counted = joined.counted ∙ sym fit.counted }
