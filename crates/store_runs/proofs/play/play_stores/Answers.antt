use Rattle.std.proofs.Common.{rules}
use Rattle.store_runs.proofs.Settling.{settles_ready}
use Rattle.store_runs.proofs.play.play_stores.Goals as goal

pub returns : goal.returns
returns g c = search (rules, settles_ready)
