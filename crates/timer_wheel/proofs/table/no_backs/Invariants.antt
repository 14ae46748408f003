use Rattle.std.proofs.Common.{◌≡◌, length}
use Rattle.timer_wheel.proofs.table.no_backs.Given as goal

abbrev pub invariant-loop-place : goal.invariant-loop-place
invariant-loop-place l = length l.backs.items ≡ l._place
