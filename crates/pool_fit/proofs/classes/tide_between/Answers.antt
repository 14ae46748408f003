use Rattle.std.proofs.Common.{List, arith, subst, take_all}
use Rattle.pool_fit.specs.declared.moves.Move.{Move}
use Rattle.pool_fit.specs.declared.moves.Move.TheVariants.{Take}
use Rattle.pool_fit.specs.Moves.{gives, takes}
use Rattle.pool_fit.specs.Tides.{IsTideOf}
use Rattle.pool_fit.proofs.Tides.{tide_next}
use Rattle.pool_fit.proofs.classes.tide_between.Goals as goal

pub loop-step-preserved : goal.loop-step-preserved
loop-step-preserved c =
    let next = tide_next (takes c.args.least c.args.most) (gives c.args.least c.args.most) c.args.moves.now c.loop-step.step-index
    (Take 0) c.loop-step.tide (omega arith) c.loop-step.invariant in
    rw (c.follow.ensures, c.takes.ensures, c.gives.ensures) next

pub returns : goal.returns
returns c =
    subst (λ (xs : List Move). IsTideOf (takes c.args.least c.args.most) (gives c.args.least c.args.most) xs c.loop-step.tide)
    (take_all c.loop-step.step-index c.args.moves.now (omega arith)) c.loop-step.invariant
