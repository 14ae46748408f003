use Rattle.std.proofs.Common.{◌≡◌, length}
use Rattle.pool_runs.proofs.tests.open_gates.Given as goal

abbrev pub invariant-loop-gate : goal.invariant-loop-gate
invariant-loop-gate l = length l.gates.items ≡ l._gate
