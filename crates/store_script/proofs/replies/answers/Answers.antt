use Rattle.std.proofs.Common.{arith}
use Rattle.std.proofs.lemmas.List.Sums.{fold_more}
use Rattle.store_script.specs.declared.command.Command.TheVariants.{Put}
use Rattle.store_script.specs.Replies.{after, begun}
use Rattle.store_script.proofs.replies.answers.Goals as goal

pub loop-command-preserved : goal.loop-command-preserved
loop-command-preserved c =
    let so_far = c.loop-command.invariant in
    let items = c.as_slice-command-items.result.now in
    record {
      walked =
          rw (fold_more (after c.args.refused.now) begun items c.loop-command.command-index
          (Put 0 0 (record { a = 0; b = 0; c = 0; d = 0 })) (omega arith))
          (c.in_ok-follow.ensures.follows _ so_far.walked);
      few = omega (arith, c.in_ok-follow.ensures.counted, so_far.few);
    }
