use Rattle.std.proofs.Common.{◌+◌, ◌-◌, ◌*◌, length}
use Rattle.timer_wheel.specs.Backs.{AreBacks}
use Rattle.timer_wheel.specs.Places.{running_of}
use Rattle.timer_wheel.proofs.Turning.{Turns}
use Rattle.timer_wheel.proofs.table.Table.ring.Given as goal

-- the walk so far, and what it did to the pass
abbrev pub invariant-walk : goal.invariant-walk
invariant-walk g l =
    Turns l.moment l.list l.initial.self.places.items l.self.places.items l.self.free.items l.initial.self.lists.items l.self.lists.items
    (running_of l.initial.self.changes) (running_of l.self.changes) l.initial.self.running l.self.running l.before l.at l.initial.out l.out
    l.count l.initial.steps l.steps l.initial.pass l.pass
    × AreBacks l.self.backs.items (length l.self.places.items) (length l.self.lists.items) (running_of l.self.changes)

abbrev pub decreases-walk : goal.decreases-walk
decreases-walk g l =
    l.initial.steps + l.initial.self.running * (l.initial.pass.sizes.quantum + 17) - l.steps
