-- when seats are made and joined, and what a join leaves
use Rattle.std.specs.Prelude.{◌≡◌, ◌<◌, true, []}
use Rattle.pool_table.specs.Minds.{number_of}
use Rattle.pool_table.specs.Views.{SeatView, takes_in}
use Rattle.pool_table.specs.Steps.{Among}

-- the seat of process 0 can make that of one more process
pub record CanSplit (v : SeatView) : Type 0 where
  pub of_process : v.of_process ≡ true
  pub first : number_of v.mind ≡ 0
  pub room : v.made < v.sizes.processes
  pub among : Among v

-- a process's seat can take in that of another one, which has taken in none
pub record CanJoin (v w : SeatView) : Type 0 where
  pub of_process : v.of_process ≡ true
  pub other : w.of_process ≡ true
  pub bare : w.taken ≡ []

-- a seat took in another one: it has that one's mind beside its own, which stays
pub record Joined (before taken after : SeatView) : Type 0 where
  pub view : after ≡ takes_in taken.mind before
  pub among : Among after
