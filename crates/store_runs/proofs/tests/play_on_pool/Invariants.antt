use Rattle.std.proofs.Common.{◌≡◌, length}
use Rattle.store_runs.proofs.tests.play_on_pool.Given as goal

abbrev pub invariant-loop-script : goal.invariant-loop-script
invariant-loop-script g l = length l.gates.items ≡ l._script-index
