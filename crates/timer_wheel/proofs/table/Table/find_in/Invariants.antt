use Rattle.std.proofs.Common.{◌+◌, ◌-◌, ◌*◌, length}
use Rattle.timer_wheel.specs.Places.{in_list, running_of}
use Rattle.timer_wheel.proofs.Walking.{Seeks}
use Rattle.timer_wheel.proofs.table.Table.find_in.Given as goal

-- no timer so far has the number, and each took four steps
abbrev pub invariant-walk : goal.invariant-walk
invariant-walk g l =
    Seeks l.number l.self.places.items (in_list (length l.self.lists.items) l.list (running_of l.self.changes)) l.before l.at
    l.initial.steps l.steps l.initial.pass l.pass

abbrev pub decreases-walk : goal.decreases-walk
decreases-walk g l =
    l.initial.steps + 4 * length (in_list (length l.self.lists.items) l.list (running_of l.self.changes)) - l.steps
