use Rattle.std.proofs.Common.{arith, sym, subst}
use Rattle.std.proofs.lemmas.Grind.{common_steps}
use Rattle.schedule_replay.proofs.Replays.{may_make_all, is_replay}
use Rattle.schedule_replay.proofs.replaying.replay.Goals as goal

pub make_lines-requires : goal.make_lines-requires
make_lines-requires c =
    rw c.as_slice.ensures (may_make_all c.in_ok-shape.shape c.in_ok-run.run' _ c.in_ok-run.ensures.run c.requires)

pub returns-clause-replayed : goal.returns-clause-replayed
returns-clause-replayed c =
    let shape = c.in_ok-shape.ensures in
    is_replay c.args.schedule.now c.in_ok-shape.shape c.in_ok-run.run' c.make_lines.new.run _
    (record {
      is = shape.shape;
      processes = grind (arith, common_steps);
      batches = grind (arith, common_steps);
      words = grind (arith, common_steps);
      quantum = grind (arith, common_steps);
    })
    c.in_ok-run.ensures.run (rw c.as_slice.ensures at c.in_ok-notes.ensures) c.state_number.ensures c.in_ok-stack.ensures
    c.in_ok-kept_numbers.ensures
