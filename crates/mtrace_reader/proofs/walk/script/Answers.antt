use Rattle.std.proofs.Common.{arith, take}
use Rattle.std.proofs.lemmas.List.Sums.{fold_more}
use Rattle.mtrace_reader.proofs.WellFormed.{IsWellFormed-script_of}
use Rattle.mtrace_reader.specs.declared.trace.Operation.TheVariants.{New}
use Rattle.mtrace_reader.specs.Script.{after, begun}
use Rattle.mtrace_reader.proofs.walk.script.Goals as goal

pub loop-operation-preserved : goal.loop-operation-preserved
loop-operation-preserved c =
    let so_far = c.loop-operation.invariant in
    let items = c.as_slice-operation-items.result.now in (
      rw (fold_more (after c.args.size) (begun c.args.trace.now.cut) items c.loop-operation.operation-index (New 0 0) (omega arith))
          (c.in_ok-follow.ensures.follows _ so_far.0),
      omega (arith, c.in_ok-follow.ensures.counted),
    )

pub returns-clause-well_formed : goal.returns-clause-well_formed
returns-clause-well_formed c =
    rw c.loop-operation.invariant.0.same_script (IsWellFormed-script_of c.args.size c.args.trace.now.cut
    (take c.loop-operation.operation-index c.as_slice-operation-items.result.now))
