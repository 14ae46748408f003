-- Reading the view of one seat in a list of views, once a view is replaced or a seat is made.
use Rattle.std.proofs.Common.{◌≡◌, ◌≢◌, ℕ, zero, suc, List, [], ◌∷◌, ◌++◌, length, refl, sym, ap}
use Rattle.std.specs.Prelude.{slice_set}
use mathlib.Core.Option.{some, some-ne-none}
use lib.ListN.{get_elem?}

module _ {V : Type 0} where
  -- a seat whose view is replaced has the new view
  pub seat_set_same : (views : List V) (number : ℕ) (before after : V) → get_elem? views number ≡ some before
      → get_elem? (slice_set views number after) number ≡ some after
  seat_set_same [] number before after seated = absurd (some-ne-none before (sym seated))
  seat_set_same (view ∷ views) zero before after seated = refl
  seat_set_same (view ∷ views) (suc number) before after seated = seat_set_same views number before after seated

  -- and every other seat has the view that it had
  pub seat_set_other : (views : List V) (number other : ℕ) (after : V) → other ≢ number
      → get_elem? (slice_set views number after) other ≡ get_elem? views other
  seat_set_other [] number other after apart = refl
  seat_set_other (view ∷ views) zero zero after apart = absurd (apart refl)
  seat_set_other (view ∷ views) zero (suc other) after apart = refl
  seat_set_other (view ∷ views) (suc number) zero after apart = refl
  seat_set_other (view ∷ views) (suc number) (suc other) after apart = seat_set_other views number other after (λ same. apart (ap suc same))

  -- a seat keeps its view where a new seat comes behind all others
  pub seat_before_new : (views : List V) (number : ℕ) (view new : V) → get_elem? views number ≡ some view
      → get_elem? (views ++ new ∷ []) number ≡ some view
  seat_before_new [] number view new seated = absurd (some-ne-none view (sym seated))
  seat_before_new (first ∷ views) zero view new seated = seated
  seat_before_new (first ∷ views) (suc number) view new seated = seat_before_new views number view new seated

  -- the new seat's number is how many there were
  pub seat_new : (views : List V) (new : V) → get_elem? (views ++ new ∷ []) (length views) ≡ some new
  seat_new [] new = refl
  seat_new (first ∷ views) new = seat_new views new
