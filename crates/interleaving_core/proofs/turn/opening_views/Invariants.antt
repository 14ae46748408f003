use Rattle.interleaving_core.specs.Runs.{opening_views}
use Rattle.interleaving_core.proofs.turn.opening_views.Given as goal
use Rattle.std.proofs.Common.{◌≡◌}

abbrev pub invariant-loop-process : goal.invariant-loop-process
invariant-loop-process l = l.views.items ≡ opening_views l.shape l.process
