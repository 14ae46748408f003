use Rattle.std.proofs.Common.{◌∙◌, ap, arith, take_all}
use Rattle.mtrace_reader.specs.declared.steps.Step.TheVariants.{Place}
use Rattle.trace_player.specs.Tally.{is_place}
use Rattle.pool_fit.specs.Peaks.{is_leave}
use Rattle.pool_fit.specs.Tides.{most_there}
use Rattle.pool_fit.proofs.Peaks.{most_held}
use Rattle.pool_fit.proofs.Tides.{tide_next}
use Rattle.pool_fit.proofs.peak.peak_without_refusals.Goals as goal

pub loop-step-preserved : goal.loop-step-preserved
loop-step-preserved c =
    let steps = c.as_slice-step-items.result.now in
    let next = tide_next is_place is_leave steps c.loop-step.step-index (Place 0) c.loop-step.tide (omega arith) c.loop-step.invariant in
    rw (c.follow.ensures, c.is_place.ensures, c.is_leave.ensures) next

pub returns : goal.returns
returns c =
    let steps = c.as_slice-step-items.result.now in
    c.loop-step.invariant.peak
    ∙ ap (most_there is_place is_leave) (take_all c.loop-step.step-index steps (omega arith) ∙ c.as_slice-step-items.ensures)
    ∙ most_held c.args.script.now.news c.args.script.now.steps
