use Rattle.std.proofs.Common.{◌++◌, sym, subst}
use Rattle.pool_stress.specs.Order.{StayInOrder}
use Rattle.pool_stress.proofs.Order.{stay_of, stay_twice, stay_joined}
use Rattle.pool_stress.proofs.stress.play_and_drain.Goals as goal

pub drain_each-requires-after_bounds : goal.drain_each-requires-after_bounds
drain_each-requires-after_bounds g c κs within =
    let now = c.play_both-lost.new.stopping ++ c.play_both-lost.new.others in
    let value = c.split_at_mut-stopping.ensures.value in
    let played = stay_joined _ _ _ _ c.play_both-lost.ensures.stopping c.play_both-lost.ensures.others in
    stay_of c.args.pool.now c.args.passes.now now (subst (λ old. StayInOrder old now) (sym value) played) c.requires

pub returns : goal.returns
returns g c =
    let now = c.play_both-lost.new.stopping ++ c.play_both-lost.new.others in
    let value = c.split_at_mut-stopping.ensures.value in
    let played = stay_joined _ _ _ _ c.play_both-lost.ensures.stopping c.play_both-lost.ensures.others in
    stay_twice c.args.passes.now now c.drain_each.new.passes (subst (λ old. StayInOrder old now) (sym value) played) c.drain_each.ensures
