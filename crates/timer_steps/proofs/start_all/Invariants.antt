use Rattle.std.proofs.Common.{◌≤◌}
use Rattle.block_pool.specs.Calls.{SamePass}
use Rattle.timer_wheel.specs.Views.{HoldsAll}
use Rattle.timer_steps.proofs.start_all.Given as goal

-- as many were started at most as the loop has counted
abbrev pub invariant-loop-number : goal.invariant-loop-number
invariant-loop-number l = record {
  same : SamePass l.initial.pass l.pass;
  holds : HoldsAll l.wheel.objects l.pass;
  started : l.wheel.timers.started ≤ l.number;
}
