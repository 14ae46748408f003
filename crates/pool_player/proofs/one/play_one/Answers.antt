use Rattle.std.proofs.Common.{◌≡◌, length, take, arith, ap, ◌∙◌}
use Rattle.std.proofs.lemmas.List.{take_more, take_all, length-take-le, length-replicate}
use Rattle.mtrace_reader.specs.declared.steps.Step.TheVariants.{Place}
use Rattle.trace_player.proofs.Ordered.{may_come, room_for}
use Rattle.pool_player.proofs.Playing.{played_all, so_far_none}
use Rattle.pool_player.proofs.one.play_one.Goals as goal

pub loop-step-init : goal.loop-step-init
loop-step-init g c = rw (c.requires.empty, c.begin-tally.ensures) (so_far_none _ _ _ c.args.script.now.news)

pub play_step-requires : goal.play_step-requires
play_step-requires g c =
    let script = c.args.script.now in
    let place = c.loop-step.step-index in
    let e = c.as_slice-step-items.ensures in
    let within = rw e at c.loop-step-test.true in
    let slots : length c.loop-step.slots ≡ script.news
    = c.loop-step.auto.slots ∙ ap length c.requires.empty ∙ length-replicate script.news _ in
    let same = c.loop-step.invariant.made.grown.same in
    rw e (record {
      script = script;
      done = take place script.steps;
      first = _;
      start = c.args.pass.now;
      of_pool = record { table = same.table ∙ c.requires.pool.table; sizes = same.sizes ∙ c.requires.pool.sizes };
      young = omega (arith, length-take-le place script.steps (omega arith));
      short = omega (arith, length-take-le place script.steps (omega arith));
      room = rw slots (room_for script place (Place 0) c.requires.well_formed within);
      may_come = may_come script place (Place 0) c.requires.well_formed within;
      played = rw e at c.loop-step.invariant;
    })

pub loop-step-preserved : goal.loop-step-preserved
loop-step-preserved g c =
    let script = c.args.script.now in
    let place = c.loop-step.step-index in
    let e = c.as_slice-step-items.ensures in
    let within = rw e at c.loop-step-test.true in
    let may = may_come script place (Place 0) c.requires.well_formed within in
    rw (e, take_more script.steps place (Place 0) within)
    (rw e at (c.play_step.ensures script (take place script.steps) _ c.args.pass.now (rw e may) (rw e at c.loop-step.invariant)))

pub returns : goal.returns
returns g c =
    let e = c.as_slice-step-items.ensures in
    let all : take c.loop-step.step-index c.as_slice-step-items.result.now ≡ c.args.script.now.steps =
    take_all c.loop-step.step-index c.as_slice-step-items.result.now c.loop-step-test.false ∙ e in
    played_all c.args.script.now _ _ _ _ c.loop-step.slots _ c.requires.well_formed (rw all at c.loop-step.invariant)
