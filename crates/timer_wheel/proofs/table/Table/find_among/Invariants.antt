use Rattle.std.proofs.Common.{length}
use Rattle.timer_wheel.specs.Places.{running_of}
use Rattle.timer_wheel.proofs.Finding.{SeeksAll}
use Rattle.timer_wheel.proofs.table.Table.find_among.Given as goal

-- no list so far has a timer with the number
abbrev pub invariant-loop-list : goal.invariant-loop-list
invariant-loop-list g l =
    SeeksAll l.number (length l.self.lists.items) l.list (running_of l.self.changes) l.initial.steps l.steps l.initial.pass l.pass
