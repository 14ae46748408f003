use Rattle.std.proofs.Common.{◌≡◌, take}
use Rattle.transfer_schedule.specs.Numbers.{opening}
use Rattle.transfer_schedule.specs.Calls.{after_calls}
use Rattle.transfer_schedule.proofs.plan.Plan.after.Given as goal

abbrev pub invariant-loop-call : goal.invariant-loop-call
invariant-loop-call l = l.plan ≡ after_calls (take l.call-index l.calls) (opening l.fn.length l.fn.bound l.fn.quantum)
