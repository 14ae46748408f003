-- The seats of further processes are made one after another.
use Rattle.std.proofs.Common.{◌≡◌, ◌≢◌, ℕ, ◌+◌, ◌<◌, List, [], ◌∷◌, ◌++◌, length, refl, sym, ap, ◌∙◌, subst, arith, ne_eqb, length-append}
use Rattle.atomic_table.specs.Seated.{TableId}
use Rattle.word_layout.specs.Sizes.{Sizes}
use Rattle.word_table.specs.Seats.{Seated, SameSeat}
use Rattle.pool_table.specs.Views.{SeatView, seat_of_process, first_seat, one_more_made}
use Rattle.pool_table.specs.Steps.{Among}
use Rattle.pool_table.specs.Joins.{CanSplit}
use Rattle.pool_seats.specs.Opening.{opening_seat, IsOpeningSeat, AreOpeningSeats}

-- the seat of process 0, which has made so many, its own among them
pub record HasMade (sizes : Sizes) (table : TableId) (made : ℕ) (first : Seated SeatView) : Type 0 where
  pub at_table : first.table ≡ table
  pub view : first.view ≡ seat_of_process sizes 0 made
  pub among : Among first.view

-- the loop that makes them: so many seats are made, the last ones in this list
pub record AreMade (sizes : Sizes) (table : TableId) (made steps : ℕ) (first : Seated SeatView)
    (seats : List (Seated SeatView)) : Type 0 where
  pub maker : HasMade sizes table made first
  pub many : length seats + 1 ≡ made
  pub counted : steps + 1 ≡ made
  pub each : AreOpeningSeats sizes table 1 seats

-- the seat of process 0 at the opening, and those of the others
pub opening_first : (sizes : Sizes) → opening_seat sizes 0 ≡ seat_of_process sizes 0 sizes.processes
opening_first sizes = refl

-- each other process's seat is the one of its opening, which has made no seat
pub opening_further : (sizes : Sizes) (process : ℕ) → 0 < process → opening_seat sizes process ≡ seat_of_process sizes process 0
opening_further sizes process above = let ne : process ≢ 0 = omega arith in rw (ne_eqb process 0 ne) refl

-- all are made
pub first_is_opening : (sizes : Sizes) (table : TableId) (first : Seated SeatView) → HasMade sizes table sizes.processes first
    → IsOpeningSeat sizes table 0 first
first_is_opening sizes table first has =
    record { at_table = has.at_table; view = has.view ∙ sym (opening_first sizes); among = has.among }

-- one more at the end
pub one_more : (sizes : Sizes) (table : TableId) (next : ℕ) (seats : List (Seated SeatView)) (seat : Seated SeatView)
    → AreOpeningSeats sizes table next seats → IsOpeningSeat sizes table (next + length seats) seat
    → AreOpeningSeats sizes table next (seats ++ seat ∷ [])
one_more sizes table next [] seat each new = (subst (λ n. IsOpeningSeat sizes table n seat) (omega arith) new, tt)
one_more sizes table next (first ∷ seats) seat each new =
    (each.0, one_more sizes table (next + 1) seats seat each.1 (subst (λ n. IsOpeningSeat sizes table n seat) (omega arith) new))

-- the one that is made is the next
pub made_is_opening : (sizes : Sizes) (table : TableId) (made next : ℕ) (first seat : Seated SeatView) → HasMade sizes table made first
    → next ≡ made → seat.table ≡ table → seat.view ≡ seat_of_process first.view.sizes first.view.made 0 → Among seat.view → 0 < next
    → IsOpeningSeat sizes table next seat
made_is_opening sizes table made next first seat has same at new among above = record {
  at_table = at;
  view = new ∙ ap (λ (v : SeatView). seat_of_process v.sizes v.made 0) has.view
      ∙ ap (λ n. seat_of_process sizes n 0) (sym same) ∙ sym (opening_further sizes next above);
  among = among;
}

-- the seat of process 0 may make one more
pub may_make : (sizes : Sizes) (table : TableId) (made : ℕ) (first : Seated SeatView) → HasMade sizes table made first
    → made < sizes.processes → CanSplit first.view
may_make sizes table made first has room =
    subst CanSplit (sym has.view) (record { of_process = refl; first = refl; room = room; among = subst Among has.view has.among })

-- before it has made any but its own
pub none_yet : (sizes : Sizes) (table : TableId) (first : Seated SeatView) → first.table ≡ table → first.view ≡ first_seat sizes
    → Among first.view → AreMade sizes table 1 0 first []
none_yet sizes table first at view among = record {
  maker = record { at_table = at; view = view; among = among };
  many = refl;
  counted = refl;
  each = tt;
}

-- after it has made one more
pub made_one : (sizes : Sizes) (table : TableId) (made steps ticked : ℕ) (first kept seat : Seated SeatView)
    (seats : List (Seated SeatView)) → AreMade sizes table made steps first seats
    → SameSeat first kept → kept.view ≡ one_more_made first.view → Among kept.view
    → seat.table ≡ table → seat.view ≡ seat_of_process first.view.sizes first.view.made 0 → Among seat.view
    → ticked ≡ steps + 1
    → AreMade sizes table (made + 1) ticked kept (seats ++ seat ∷ [])
made_one sizes table made steps ticked first kept seat seats are same view among at new new_among counted = record {
  maker = record { at_table = same.0 ∙ are.maker.at_table; view = view ∙ ap one_more_made are.maker.view; among = among };
  many = omega (arith, length-append seats (seat ∷ []), are.many);
  counted = omega (arith, are.counted);
  each = one_more sizes table 1 seats seat are.each
      (made_is_opening sizes table made (1 + length seats) first seat are.maker (omega (arith, are.many)) at new new_among (omega arith));
}
