-- the seats of all processes at the opening
use Rattle.std.specs.Prelude.{◌≡◌, ℕ, ◌+◌, ◌==◌, if◌then◌else◌, List, [], ◌∷◌, length}
use Rattle.atomic_table.specs.Seated.{TableId}
use Rattle.word_layout.specs.Sizes.{Sizes}
use Rattle.word_table.specs.Seats.{Seated}
use Rattle.pool_table.specs.Views.{SeatView, seat_of_process}
use Rattle.pool_table.specs.Steps.{Among}

-- the view of a process's seat at the opening; that of process 0 has made those of all processes
abbrev pub opening_seat : Sizes → ℕ → SeatView
opening_seat sizes process = seat_of_process sizes process (if process == 0 then sizes.processes else 0)

-- the seat is that of a process of this table at the opening
pub record IsOpeningSeat (sizes : Sizes) (table : TableId) (process : ℕ) (seat : Seated SeatView) : Type 0 where
  pub at_table : seat.table ≡ table
  pub view : seat.view ≡ opening_seat sizes process
  pub among : Among seat.view

-- the seats are those of the processes from `next` on, in the order of their numbers
abbrev pub AreOpeningSeats : Sizes → TableId → ℕ → List (Seated SeatView) → Type 0
AreOpeningSeats sizes table next [] = Unit {0}
AreOpeningSeats sizes table next (seat ∷ seats) = IsOpeningSeat sizes table next seat × AreOpeningSeats sizes table (next + 1) seats

-- the seats are those of all processes, in the order of their numbers
pub record AllOpeningSeats (sizes : Sizes) (table : TableId) (seats : List (Seated SeatView)) : Type 0 where
  pub many : length seats ≡ sizes.processes
  pub each : AreOpeningSeats sizes table 0 seats
