-- What the gates of a run are told.
use Rattle.std.specs.Prelude.{List, map}
use Rattle.pass_players.specs.Moments.{Moment}

-- what the gates had been told before a run, and what after it; gate k is that of process k
pub record Gates : Type 0 where
  pub before : List (List Moment)
  pub now : List (List Moment)

-- that of gates of one kind
abbrev pub gates_of : {G : Type 0} → (G → List Moment) → List G → List G → Gates
gates_of told old new = record { before = map told old; now = map told new }
