use Rattle.std.proofs.Common.{arith}
use Rattle.schedule_replay.proofs.Makings.{makes_more, makes_none, one_left}
use Rattle.schedule_replay.proofs.made.make_line.Goals as goal

pub make_once-requires : goal.make_once-requires
make_once-requires c = one_left c.args.repeat.now c.loop-made._made _ _ _ _ (omega arith) c.requires c.loop-made.invariant

pub loop-made-init : goal.loop-made-init
loop-made-init c = makes_none c.args.run.now c.args.notes.now.items

pub loop-made-preserved : goal.loop-made-preserved
loop-made-preserved c =
    makes_more c.args.repeat.now c.loop-made._made _ _ _ _ _ _ c.loop-made.invariant c.in_ok-make_once.ensures
