use Rattle.std.proofs.Common.{◌≡◌, length, take, arith, ap, ◌∙◌}
use Rattle.std.proofs.lemmas.List.{take_more, take_all, length-take-le, length-replicate}
use Rattle.mtrace_reader.specs.declared.steps.Step.TheVariants.{Place}
use Rattle.trace_player.proofs.Ordered.{may_come, room_for}
use Rattle.trace_player.proofs.Steps.{played_none}
use Rattle.trace_player.proofs.Whole.{played_whole}
use Rattle.trace_player.proofs.plain.play_script.Goals as goal

pub loop-step-init : goal.loop-step-init
loop-step-init c = rw (c.requires.empty, c.begin-tally.ensures) (played_none _ _ _ c.args.script.now.news)

pub play_step-requires : goal.play_step-requires
play_step-requires c =
    let script = c.args.script.now in
    let place = c.loop-step.step-index in
    let formed = c.requires.well_formed in
    let e = c.as_slice-step-items.ensures in
    let within = rw e at c.loop-step-test.true in
    let size = length-take-le place script.steps (omega arith) in
    let slots : length c.loop-step.slots ≡ script.news =
    c.loop-step.auto.slots ∙ ap length c.requires.empty ∙ length-replicate script.news _ in
    rw e (record {
      script = script;
      done = take place script.steps;
      old = c.args.pool.now;
      few = omega arith;
      room = rw slots (room_for script place (Place 0) formed within);
      may_come = may_come script place (Place 0) formed within;
      played = rw e at c.loop-step.invariant;
    })

pub loop-step-preserved : goal.loop-step-preserved
loop-step-preserved c =
    let script = c.args.script.now in
    let place = c.loop-step.step-index in
    let e = c.as_slice-step-items.ensures in
    let within = rw e at c.loop-step-test.true in
    let may = may_come script place (Place 0) c.requires.well_formed within in
    rw (e, take_more script.steps place (Place 0) within)
    (rw e at (c.play_step.ensures script (take place script.steps) c.args.pool.now (rw e may) (rw e at c.loop-step.invariant)))

pub returns : goal.returns
returns c =
    let e = c.as_slice-step-items.ensures in
    let all : take c.loop-step.step-index c.as_slice-step-items.result.now ≡ c.args.script.now.steps =
    take_all c.loop-step.step-index c.as_slice-step-items.result.now c.loop-step-test.false ∙ e in
    played_whole _ c.args.script.now _ _ c.loop-step.slots _ c.requires.well_formed (rw all at c.loop-step.invariant)
