use Rattle.std.proofs.Common.{◌+◌, ◌≤◌}
use Rattle.block_pool.specs.Passing.{IsOf}
use Rattle.timer_wheel.specs.Views.{HoldsAll}
use Rattle.timer_wheel.proofs.tests.play_rows.Given as goal

-- each call starts one timer at most
abbrev pub invariant-loop-call : goal.invariant-loop-call
invariant-loop-call g l = record {
  pass : IsOf l.pool l.pass;
  holds : HoldsAll l.wheel.objects l.pass;
  started : l.wheel.timers.started ≤ l.initial.wheel.timers.started + l.call-index;
}
