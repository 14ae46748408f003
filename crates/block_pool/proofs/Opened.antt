-- Passes are made of seats at the opening.
use Rattle.std.proofs.Common.{◌≡◌, ℕ, ◌+◌, ◌<◌, List, [], ◌∷◌, ◌++◌, length, Some, refl, sym, ap, ◌∙◌, subst, inl, inr, arith}
use Rattle.std.proofs.Common.{length-append}
use Rattle.std.specs.Prelude.{slice_get}
use Rattle.std.proofs.lemmas.Bool.{cases_lt}
use Rattle.atomic_table.specs.Seated.{TableId}
use Rattle.word_layout.specs.Sizes.{Sizes}
use Rattle.word_table.specs.Seats.{Seated}
use Rattle.pool_model.proofs.Places.{slice_get-append, slice_get-push}
use Rattle.pool_table.specs.Views.{SeatView}
use Rattle.pool_seats.specs.Opening.{IsOpeningSeat, AreOpeningSeats, AllOpeningSeats}
use Rattle.block_pool.specs.Passing.{Pooled, Passed}
use Rattle.block_pool.specs.Opening.{opened_pass, AreOpenedPasses}

-- the loop that makes them: these passes are made, in order, and the rest of the seats are those of the further processes
pub record PassesMade (table : TableId) (sizes : Sizes) (rest : List (Seated SeatView)) (passes : List Passed) : Type 0 where
  pub further : AreOpeningSeats sizes table (length passes) rest
  pub many : length passes + length rest ≡ sizes.processes
  pub each : (number : ℕ) → number < length passes → slice_get passes number ≡ Some (opened_pass table sizes number)

-- before any is made
pub none_made : (table : TableId) (sizes : Sizes) (seats : List (Seated SeatView)) (passes : List Passed)
    → AllOpeningSeats sizes table seats
    → passes ≡ [] → PassesMade table sizes seats passes
none_made table sizes seats passes all none =
    rw none (record { further = all.each; many = omega (arith, all.many); each = λ number low. absurd (omega arith) })

-- the next one may be made
pub next_is_low : (table : TableId) (sizes : Sizes) (rest more : List (Seated SeatView)) (seat : Seated SeatView) (passes : List Passed)
    (number : ℕ) → PassesMade table sizes rest passes → rest ≡ seat ∷ more → number ≡ length passes → number < sizes.processes
next_is_low table sizes rest more seat passes number made e is = omega (arith, made.many, ap length e)

-- the seat that comes next at an opening is that of the next process, as it opens
pub next_is_opening : (table : TableId) (sizes : Sizes) (rest more : List (Seated SeatView)) (seat : Seated SeatView) (passes : List Passed)
    (shape : Sizes) (number : ℕ) → PassesMade table sizes rest passes → rest ≡ seat ∷ more → number ≡ length passes → shape ≡ sizes
    → IsOpeningSeat shape seat.table number seat
next_is_opening table sizes rest more seat passes shape number made e is same =
    let further = subst (AreOpeningSeats sizes table (length passes)) e made.further in
    let opening = further.0 in
    subst (λ s. IsOpeningSeat s seat.table number seat) (sym same) (subst (λ n. IsOpeningSeat sizes seat.table n seat) (sym is)
    (record { at_table = refl; view = opening.view; among = opening.among }))

-- the next one is made
pub one_made : (table : TableId) (sizes : Sizes) (rest more : List (Seated SeatView)) (seat : Seated SeatView) (passes : List Passed)
    (pass : Passed) (shape : Sizes) (number : ℕ) → PassesMade table sizes rest passes → rest ≡ seat ∷ more → number ≡ length passes
    → shape ≡ sizes
    → pass ≡ opened_pass seat.table shape number
    → PassesMade table sizes more (passes ++ pass ∷ [])
one_made table sizes rest more seat passes pass shape number made e next same is_opened =
    let is : pass ≡ opened_pass seat.table sizes (length passes) =
    is_opened ∙ ap (λ n. opened_pass seat.table shape n) next ∙ ap (λ s. opened_pass seat.table s (length passes)) same in
    let further = subst (AreOpeningSeats sizes table (length passes)) e made.further in
    let longer = length-append passes (pass ∷ []) in
    record {
      further = subst (λ n. AreOpeningSeats sizes table n more) (sym longer) further.1;
      many = omega (arith, longer, made.many, ap length e);
      each = λ number low. elim (cases_lt number (length passes)) [
        | inl before ↦ slice_get-append passes (pass ∷ []) number before ∙ made.each number before
        | inr last ↦
            let here : number ≡ length passes = omega (arith, longer) in
            ap (slice_get (passes ++ pass ∷ [])) here ∙ slice_get-push passes pass
            ∙ ap Some (is ∙ ap (λ t. opened_pass t sizes (length passes)) further.0.at_table ∙ ap (opened_pass table sizes) (sym here))
      ];
    }

-- all are made
pub all_made : (pool : Pooled) (rest : List (Seated SeatView)) (passes : List Passed) → PassesMade pool.table pool.sizes rest passes
    → length rest ≡ 0 → AreOpenedPasses pool passes
all_made pool rest passes made none =
    let all : length passes ≡ pool.sizes.processes = omega (arith, made.many) in
    record { many = all; each = λ number low. made.each number (omega (arith, all)) }
