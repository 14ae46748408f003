use Rattle.std.proofs.Common.{arith}
use Rattle.schedule_replay.proofs.Makings.{makes_begun, makes_line, line_left}
use Rattle.schedule_replay.proofs.made.make_lines.Goals as goal

pub loop-repeat-init : goal.loop-repeat-init
loop-repeat-init c = makes_begun c.args.run.now _ c.new-notes.ensures.items

pub make_line-requires : goal.make_line-requires
make_line-requires c = line_left c.args.lines.now c.loop-repeat.repeat-index _ _ _ _ _ c.loop-repeat-test.true c.requires
    c.loop-repeat.invariant

pub loop-repeat-preserved : goal.loop-repeat-preserved
loop-repeat-preserved c =
    makes_line c.args.lines.now c.loop-repeat.repeat-index _ _ _ _ _ _ _ c.loop-repeat-test.true c.loop-repeat.invariant
    c.in_ok-make_line.ensures
