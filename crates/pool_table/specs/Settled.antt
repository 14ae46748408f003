-- what a seat knows of all that it took in
use Rattle.std.specs.Prelude.{◌≡◌, List, length, take, true}
use Rattle.word_layout.specs.Sizes.{limits_of}
use Rattle.pool_model.specs.declared.entry.Entry.{Entry}
use Rattle.pool_model.specs.History.{own}
use Rattle.pool_model.specs.Legal.{IsLegal}
use Rattle.pool_table.specs.Minds.{Mind, number_of, entries_in}
use Rattle.pool_table.specs.Views.{SeatView}
use Rattle.pool_table.specs.Rule.{EachMind}
use Rattle.pool_table.specs.Steps.{Among}

-- the history has the entries of the mind's process and no more of its own, and begins with what that process has seen
pub record FitsIn (history : List Entry) (mind : Mind) : Type 0 where
  pub entries : own history (number_of mind) ≡ entries_in mind
  pub begins : take (length mind.seen) history ≡ mind.seen

-- one legal history fits the seat's own mind and all that it took in
pub record Settles (v : SeatView) : Type 0 where
  pub history : List Entry
  pub legal : IsLegal (limits_of v.sizes) history
  pub mine : FitsIn history v.mind
  pub taken : EachMind (FitsIn history) v.taken

-- the seat of a process that is among words and views of the rule settles
abbrev pub SeatsSettle : Type 0
SeatsSettle = (v : SeatView) → Among v → v.of_process ≡ true → Settles v
