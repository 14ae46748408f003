use Rattle.std.proofs.Common.{rules}
use Rattle.pool_runs.proofs.Settling.{settles_ready}
use Rattle.pool_runs.proofs.play.play_traces.Goals as goal

pub returns : goal.returns
returns g c = search (rules, settles_ready)
