use Rattle.std.proofs.Common.{arith}
use Rattle.std.proofs.lemmas.Grind.{common_steps}
use Rattle.pool_fit.proofs.Tables.{class_more, least_more, most_more}
use Rattle.pool_fit.proofs.classes.size_classes.Goals as goal

pub loop-exponent-preserved : goal.loop-exponent-preserved
loop-exponent-preserved c =
    let so_far = c.loop-exponent.invariant in
    let one_more = class_more c.args.moves.now c.loop-exponent.exponent c.loop-exponent.least c.loop-exponent.most
    c.loop-exponent.classes.items so_far.classes so_far.least so_far.most in
    record {
      classes = grind (arith, common_steps, one_more, c.in_ok-push.ensures.items, c.size_class.ensures);
      least = least_more c.loop-exponent.exponent c.loop-exponent.most so_far.most;
      most = most_more c.loop-exponent.exponent c.loop-exponent.most so_far.most;
    }
