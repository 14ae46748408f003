use Rattle.std.proofs.Common.{◌≢◌, length, subst, arith}
use Rattle.timer_wheel.specs.Places.{running_of}
use Rattle.timer_wheel.specs.Spots.{FoundIn}
use Rattle.timer_wheel.proofs.Finding.{all_begins, all_counted, all_most, all_on, all_room, each_by_lists, moved_again}
use Rattle.timer_wheel.proofs.Serving.{are_held_moved}
use Rattle.timer_wheel.proofs.table.Table.find_among.Goals as goal

pub loop-list-init : goal.loop-list-init
loop-list-init g c =
    let was = c.args.self.now in
    all_begins c.args.number (length was.lists.items) (running_of was.changes) c.args.steps.now c.args.pass.now

pub find_in-requires-clause-held : goal.find_in-requires-clause-held
find_in-requires-clause-held g c =
    are_held_moved c.args.self.now.places.items _ c.args.pass.now c.loop-list.pass c.loop-list.invariant.pass c.requires.held

pub find_in-requires-clause-room : goal.find_in-requires-clause-room
find_in-requires-clause-room g c =
    let was = c.args.self.now in
    omega (
      arith,
      c.requires.room,
      all_room c.args.number (length was.lists.items) c.loop-list.list (running_of was.changes) was.running c.args.steps.now
          c.loop-list.steps
          c.args.pass.now c.loop-list.pass c.requires.table.many c.loop-list.invariant,
    )

pub returns-in-Some-clause-pass : goal.returns-in-Some-clause-pass
returns-in-Some-clause-pass g c =
    moved_again c.args.pass.now c.loop-list.pass c.find_in.new.pass c.loop-list.invariant.pass c.in-Some.ensures.pass

pub returns-in-Some-clause-steps : goal.returns-in-Some-clause-steps
returns-in-Some-clause-steps g c =
    let was = c.args.self.now in
    let running = running_of was.changes in
    all_most (length was.lists.items) _ running was.running c.args.steps.now c.find_in.new.steps c.args.pass.now c.find_in.new.pass
    c.requires.table.many
    (all_counted c.args.number (length was.lists.items) c.loop-list.list running c.args.steps.now c.loop-list.steps c.find_in.new.steps
    c.args.pass.now c.loop-list.pass c.find_in.new.pass c.loop-list.invariant c.in-Some.ensures.steps)

pub loop-list-preserved : goal.loop-list-preserved
loop-list-preserved g c =
    let was = c.args.self.now in
    all_on c.args.number (length was.lists.items) c.loop-list.list (running_of was.changes) c.args.steps.now c.loop-list.steps
    c.find_in.new.steps c.args.pass.now c.loop-list.pass c.find_in.new.pass c.loop-list.invariant
    (subst (λ r. FoundIn c.args.number was.places.items (length was.lists.items) c.loop-list.list (running_of was.changes) r)
    c.in_default.is
    c.find_in.ensures.found)
    c.find_in.ensures.pass
    c.find_in.ensures.steps

pub returns-clause-found : goal.returns-clause-found
returns-clause-found g c =
    let was = c.args.self.now in
    each_by_lists (λ t. t.number ≢ c.args.number) (length was.lists.items) (running_of was.changes) (omega (arith, c.requires.table.some))
    (λ k low. c.loop-list.invariant.none k (omega (arith, low, c.loop-list-test.false)))

pub returns-clause-steps : goal.returns-clause-steps
returns-clause-steps g c =
    let was = c.args.self.now in
    all_most (length was.lists.items) c.loop-list.list (running_of was.changes) was.running c.args.steps.now c.loop-list.steps
    c.args.pass.now c.loop-list.pass c.requires.table.many c.loop-list.invariant.counted
