-- the views of seats
use Rattle.std.specs.Prelude.{ℕ, ◌+◌, nat_lt, if◌then◌else◌, Bool, true, false, List, [], ◌∷◌, ◌++◌, length}
use Rattle.word_layout.specs.Sizes.{Sizes}
use Rattle.pool_model.specs.declared.entry.Entry.{Entry}
use Rattle.pool_table.specs.Minds.{Mind, opening_mind}

-- what a seat knows: the shape; whether it is a process's, and that one's mind; how many seats it made; the minds of those it took in
pub record SeatView : Type 0 where
  pub sizes : Sizes
  pub of_process : Bool
  pub mind : Mind
  pub made : ℕ
  pub taken : List Mind

-- the sizes in a view that says nothing
abbrev pub no_sizes : Sizes
no_sizes = record { processes = 0; batches = 0; words = 0; quantum = 0; length = 0 }

-- what a seat leaves that another took in
abbrev pub spent : SeatView
spent = record { sizes = no_sizes; of_process = false; mind = opening_mind no_sizes 0; made = 0; taken = [] }

-- the seat of a process at the opening
abbrev pub seat_of_process : Sizes → ℕ → ℕ → SeatView
seat_of_process sizes process seats = record {
  sizes = sizes;
  of_process = true;
  mind = opening_mind sizes process;
  made = seats;
  taken = [];
}

-- the first seat is that of process 0
abbrev pub first_seat : Sizes → SeatView
first_seat sizes = seat_of_process sizes 0 1

-- a seat has made one more
abbrev pub one_more_made : SeatView → SeatView
one_more_made v = record v { made = v.made + 1 }

-- what a seat keeps of its view where one more is made of it
abbrev pub left_by : Bool → SeatView → SeatView
left_by true v = one_more_made v
left_by false v = v

-- a process's seat counts it, any other stays as it was
abbrev pub left : SeatView → SeatView
left v = left_by v.of_process v

-- what the new one has: it is that of the next process
abbrev pub right_by : Bool → SeatView → SeatView
right_by true v = seat_of_process v.sizes v.made 0
right_by false v = spent

-- a seat that isn't a process's makes one that knows nothing
abbrev pub right : SeatView → SeatView
right v = right_by v.of_process v

-- the longer of two lists
abbrev pub longer : List Entry → List Entry → List Entry
longer a b = if nat_lt (length a) (length b) then b else a

-- a seat takes in the mind of another: it has seen what any of its minds has, so that no mind is lost
abbrev pub takes_in : Mind → SeatView → SeatView
takes_in theirs v = record v { taken = v.taken ++ theirs ∷ [] }

-- the view of a seat that takes in another one
abbrev pub both_by : Bool → SeatView → SeatView → SeatView
both_by true v w = takes_in w.mind v
both_by false v w = v

-- it gets the mind of a process's seat, and nothing of any other
abbrev pub both : SeatView → SeatView → SeatView
both v w = both_by w.of_process v w

-- the load after that turns no view
abbrev pub looked : SeatView → SeatView
looked v = v

-- the minds that a seat has: that of its process, and those that it took in
abbrev pub minds_by : Bool → Mind → List Mind → List Mind
minds_by true mind taken = mind ∷ taken
minds_by false mind taken = taken

-- the minds of a seat, by whether it is a process's
abbrev pub minds_of : SeatView → List Mind
minds_of v = minds_by v.of_process v.mind v.taken

-- the longest list that they have seen, and the longest of all seats
abbrev pub longest_in : List Mind → List Entry
longest_in [] = []
longest_in (mind ∷ more) = longer mind.seen (longest_in more)

-- the longest list that a mind of any of these seats has seen
abbrev pub longest : List SeatView → List Entry
longest [] = []
longest (v ∷ more) = longer (longest_in (minds_of v)) (longest more)
