use Rattle.std.proofs.Common.{◌≡◌}
use Rattle.std.specs.List.{All}
use Rattle.pool_runs.specs.Drills.{drill_scripts}
use Rattle.pool_runs.specs.Playable.{IsPlayable}
use Rattle.pool_runs.proofs.drill.drill_scripts.Given as goal

-- the scripts so far are made
abbrev pub invariant-loop-process : goal.invariant-loop-process
invariant-loop-process l = (l.scripts.items ≡ drill_scripts l.seed l.calls l.process) × All IsPlayable l.scripts.items
