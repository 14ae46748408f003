use Rattle.store_runs.proofs.Playable.{all_over}
use Rattle.store_runs.proofs.play.prepare_stores.Goals as goal

pub prepare_pool-requires-clause-playable : goal.prepare_pool-requires-clause-playable
prepare_pool-requires-clause-playable g c =
    let age = c.most_age-age.ensures in
    all_over c.args.shape.now c.args.scripts.now c.requires.words (rw age.value at age.many) c.requires.playable
