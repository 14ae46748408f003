use Rattle.std.proofs.Common.{◌≡◌, List, ◌++◌, sym, subst, ap, ◌∙◌}
use Rattle.word_layout.specs.Sizes.{Sizes}
use Rattle.std.specs.Arc.{arc_value}
use Rattle.std.specs.Vec.Iter.{into_iter_items}
use Rattle.block_pool.specs.Opening.{AreOpenedPasses}
use Rattle.block_pool.specs.Passing.{Pooled, Passed}
use Rattle.pool_member.proofs.Opened.{all_opened, one_opened}
use Rattle.pool_member.proofs.opening.open_shape.Goals as goal

pub loop-pass-preserved : goal.loop-pass-preserved
loop-pass-preserved c =
    subst (λ (ms : List Passed). AreOpenedPasses (arc_value c.in_ok-pool-2.pool) (ms ++ into_iter_items c.next.new.self))
    (sym c.in_ok-push.ensures.items)
    (one_opened _ _ _ _ _ c.in_ok-member.member c.loop-pass.invariant c.in-Some.ensures.steps.0 c.in_ok-member.ensures)

pub returns : goal.returns
returns c =
    let opened : AreOpenedPasses (arc_value c.in_ok-pool-2.pool) c.loop-pass.members.items =
    all_opened _ _ _ c.loop-pass.invariant (sym c.loop-pass.pass-iterator.rest.ok.0 ∙ c.in-None.ensures.steps.0) in
    let sizes : (arc_value c.in_ok-pool-2.pool).sizes ≡ c.args.shape.now =
    ap (λ (p : Pooled). p.sizes) c.in_ok-pool-2.ensures.ok ∙ c.in_ok-pool.ensures.shape in
    record {
      table = (arc_value c.in_ok-pool-2.pool).table;
      opened = subst (λ (s : Sizes). AreOpenedPasses (record { table = (arc_value c.in_ok-pool-2.pool).table; sizes = s })
          c.loop-pass.members.items) sizes opened;
    }
