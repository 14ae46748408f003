use Rattle.std.proofs.Common.{arith}
use Rattle.timer_wheel.proofs.Finding.{moved_again}
use Rattle.timer_wheel.proofs.Serving.{are_held_moved, counted_both, counted_most}
use Rattle.timer_wheel.proofs.table.Table.find.Goals as goal

pub find_among-requires-clause-held : goal.find_among-requires-clause-held
find_among-requires-clause-held g c =
    are_held_moved c.args.self.now.places.items _ c.args.pass.now c.hint.new.pass c.in-None.ensures.pass c.requires.held

pub find_among-requires-clause-room : goal.find_among-requires-clause-room
find_among-requires-clause-room g c =
    omega (arith, c.requires.room, c.in-None.ensures.steps.most, c.in-None.ensures.steps.steps)

pub returns-in-None-clause-pass : goal.returns-in-None-clause-pass
returns-in-None-clause-pass g c =
    moved_again c.args.pass.now c.hint.new.pass c.find_among.new.pass c.in-None.ensures.pass c.find_among.ensures.pass

pub returns-in-None-clause-steps : goal.returns-in-None-clause-steps
returns-in-None-clause-steps g c =
    counted_most 0 _ _ c.args.steps.now c.find_among.new.steps c.args.pass.now c.find_among.new.pass
    (counted_both 4 _ c.args.steps.now c.hint.new.steps c.find_among.new.steps c.args.pass.now c.hint.new.pass c.find_among.new.pass
    c.in-None.ensures.steps c.find_among.ensures.steps)
    (omega arith)
