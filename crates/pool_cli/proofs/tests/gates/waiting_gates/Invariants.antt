use Rattle.std.proofs.Common.{◌≡◌, length}
use Rattle.pool_cli.proofs.tests.gates.waiting_gates.Given as goal

abbrev pub invariant-loop-process : goal.invariant-loop-process
invariant-loop-process l = length l.gates.items ≡ l._process
