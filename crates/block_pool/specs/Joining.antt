-- the seats of passes are joined into one
use Rattle.std.specs.Prelude.{◌≡◌, ℕ, true, List, ◌∷◌, map}
use Rattle.pool_model.specs.declared.entry.Entry.{Entry}
use Rattle.pool_table.specs.Minds.{Mind, number_of, entries_in}
use Rattle.pool_table.specs.Views.{SeatView}
use Rattle.pool_table.specs.Steps.{Among}
use Rattle.pool_seats.specs.Settling.{held_count}
use Rattle.block_pool.specs.Passing.{Pooled, Passed}

-- what a mind and a pass tell alike: the number of the process, what it has seen, its entries, and its moves
pub record Told : Type 0 where
  pub number : ℕ
  pub seen : List Entry
  pub own : List Entry
  pub moves : ℕ

-- what a mind tells
abbrev pub told_by_mind : Mind → Told
told_by_mind mind = record { number = number_of mind; seen = mind.seen; own = entries_in mind; moves = mind.moves }

-- what a pass tells
abbrev pub told_by_pass : Passed → Told
told_by_pass pass = record { number = pass.number; seen = pass.seen; own = pass.own; moves = pass.moves }

-- the seat has the minds of all these passes, in their order, and they hold so many blocks
pub record HasJoined (pool : Pooled) (passes : List Passed) (v : SeatView) (holding : ℕ) : Type 0 where
  pub of_process : v.of_process ≡ true
  pub sizes : v.sizes ≡ pool.sizes
  pub among : Among v
  pub minds : map told_by_mind (v.mind ∷ v.taken) ≡ map told_by_pass passes
  pub counted : holding ≡ held_count (v.mind ∷ v.taken)
