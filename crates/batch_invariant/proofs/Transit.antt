-- what follows where all heads in transit and in the content fit; and batches that are carried stay fitting, and are carried on
use Rattle.std.proofs.Common.{◌≡◌, ◌≢◌, ℕ, ◌<◌, true, ◌∙◌, [], arith}
use Rattle.std.proofs.lemmas.Bool.Decides.{nat_tests}
use Rattle.std.proofs.lemmas.List.Sums.{sum_by-cons}
use Rattle.process_sums.proofs.Sums.{term_of_total}
use Rattle.word_layout.specs.Sizes.{Sizes, most_blocks}
use Rattle.word_layout.specs.Packing.{FitsWish}
use Rattle.word_layout.specs.declared.announced.Wish.{Wish}
use Rattle.word_layout.specs.declared.announced.Wish.TheVariants.{Take, Give}
use Rattle.transfer_machine.specs.States.{StackState}
use Rattle.transfer_invariant.specs.Progress.{has_announced}
use Rattle.batch_invariant.specs.Places.{given, moving}
use Rattle.batch_invariant.specs.Batches.{ProcessViews, weight}
use Rattle.batch_invariant.specs.Transit.{transit_weight, is_large, HeadsFit, Carried}
use Rattle.batch_invariant.proofs.Moving.{moving_pending}

fits_where : (head : ℕ) → is_large head ≡ 0 → head < most_blocks
fits_where head e = grind (arith, nat_tests)

-- a head that fits a word isn't large
pub small_where : (head : ℕ) → head < most_blocks → is_large head ≡ 0
small_where head lt = grind (arith, nat_tests)

-- each head in the content fits
pub content_fits : (sizes : Sizes) (s : StackState) (views : ProcessViews) (place : ℕ) → HeadsFit sizes s views → place < s.height
    → s.content place < most_blocks
unfolding transit_weight
content_fits sizes s views place fits lt =
    let term = term_of_total s.height place (λ k. is_large (s.content k)) lt in
    fits_where (s.content place) (omega (arith, fits.none_large, term))

given_fits : (wish : Wish) → weight is_large (given wish) ≡ 0 → FitsWish wish
given_fits Take e = tt
given_fits (Give head) e = fits_where head (omega (arith, e, sum_by-cons is_large head []))

-- so does a wish that is announced and not applied
pub pending_fits : (sizes : Sizes) (s : StackState) (views : ProcessViews) (i : ℕ) → i < sizes.processes → HeadsFit sizes s views
    → has_announced (views i).transfer.next ≡ true → s.applied i ≢ (views i).transfer.age → FitsWish (views i).transfer.wish
unfolding transit_weight
pending_fits sizes s views i li fits announced ne =
    let term = term_of_total sizes.processes i (λ o. weight is_large (moving s o (views o).transfer)) li in
    let none : weight is_large (moving s i (views i).transfer) ≡ 0 = omega (arith, fits.none_large, term) in
    given_fits (views i).transfer.wish (rw (moving_pending s i (views i).transfer announced ne) at none)

-- carried batches fit, and are carried on
pub carried_fits : (sizes : Sizes) (s t : StackState) (views : ProcessViews) → Carried sizes s t views → HeadsFit sizes s views
    → HeadsFit sizes t views
carried_fits sizes s t views carried fits = record { none_large = carried.same_weight is_large ∙ fits.none_large }

-- batches that are carried from one state to a second, and on to a third, are carried from the first to the third
pub carried_on : (sizes : Sizes) (s t u : StackState) (views : ProcessViews) → Carried sizes s t views → Carried sizes t u views
    → Carried sizes s u views
carried_on sizes s t u views first second = record {
  same_weight = λ f. second.same_weight f ∙ first.same_weight f;
  matches = λ o lo h. second.matches o lo (first.matches o lo h);
}
