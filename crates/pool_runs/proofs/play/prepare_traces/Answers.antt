use Rattle.std.proofs.Common.{arith}
use Rattle.pool_runs.proofs.Playable.{all_over}
use Rattle.pool_runs.proofs.play.prepare_traces.Goals as goal

pub prepare_pool-requires-clause-playable : goal.prepare_pool-requires-clause-playable
prepare_pool-requires-clause-playable g c =
    let age = c.most_age-age.ensures in
    all_over c.args.shape.now c.args.scripts.now (omega (arith, age.value, age.many)) c.requires.playable
