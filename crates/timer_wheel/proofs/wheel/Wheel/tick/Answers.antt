use Rattle.std.proofs.Common.{◌≡◌, ◌+◌, ◌<◌, length, map, sym, ap, subst, ◌∙◌}
use Rattle.timer_wheel.specs.Places.{objects_in, running_of, timer_of}
use Rattle.timer_wheel.specs.Ringing.{HandedOut, not_due_at}
use Rattle.timer_wheel.specs.Tables.{AreBelow}
use Rattle.timer_wheel.specs.Timers.{rung, ticked}
use Rattle.timer_wheel.specs.Views.{WheelView, HoldsAll, KeepsElse}
use Rattle.timer_wheel.proofs.Lists.{each_filter}
use Rattle.timer_wheel.proofs.Viewing.{held_of_holds, holds_of_held, keeps_of_far}
use Rattle.timer_wheel.proofs.Wheels.{map_left, map_rung, wheel_ended}
use Rattle.timer_wheel.proofs.wheel.Wheel.tick.Goals as goal

pub ring-requires-clause-held : goal.ring-requires-clause-held
ring-requires-clause-held g c =
    held_of_holds c.self.inside.table.places.items c.args.pass.now
    (subst (λ (w : WheelView). HoldsAll w.objects c.args.pass.now) (sym c.self.view_is) c.requires.holds)

pub invariant_of-self : goal.invariant_of-self
invariant_of-self g c =
    let was = c.self.inside.table in
    let now = c.ring.new.self in
    wheel_ended was.places.items now.places.items was.free.items now.free.items was.lists.items now.lists.items was.backs.items
    now.backs.items (running_of was.changes)
    (running_of now.changes) was.running now.running c.self.inside.started c.self.invariant
    c.ring.ensures.table c.ring.ensures.backs c.ring.ensures.room
    c.ring.ensures.lists
    (subst (AreBelow c.self.inside.started) (sym c.ring.ensures.left)
    (each_filter (λ t. t.number < c.self.inside.started) (not_due_at (c.self.inside.moment + 1)) (running_of was.changes)
    c.self.invariant.below))

pub returns-clause-timers : goal.returns-clause-timers
returns-clause-timers g c =
    let was = c.self.inside.table in
    let now = c.ring.new.self in
    subst (λ (w : WheelView). record {
      room = length now.places.items;
      now = c.self.inside.moment + 1;
      started = c.self.inside.started;
      running = map timer_of (running_of now.changes);
    } ≡ ticked w.timers) c.self.view_is
    (ap (λ room. record {
      room = room;
      now = c.self.inside.moment + 1;
      started = c.self.inside.started;
      running = map timer_of (running_of now.changes);
    }) c.ring.ensures.room
    ∙ ap (λ running. record {
      room = length was.places.items;
      now = c.self.inside.moment + 1;
      started = c.self.inside.started;
      running = running;
    })
    (ap (map timer_of) c.ring.ensures.left ∙ map_left (c.self.inside.moment + 1) (running_of was.changes)))

pub returns-clause-rung : goal.returns-clause-rung
returns-clause-rung g c =
    subst (λ (w : WheelView). HandedOut (rung w.timers) c.args.out.now c.ring.new.out c.ring.result) c.self.view_is
    (subst (λ payloads. HandedOut payloads c.args.out.now c.ring.new.out c.ring.result)
    (map_rung (c.self.inside.moment + 1) (running_of c.self.inside.table.changes)) c.ring.ensures.rung)

pub returns-clause-holds : goal.returns-clause-holds
returns-clause-holds g c = holds_of_held c.ring.new.self.places.items c.ring.new.pass c.ring.ensures.serves.holds

pub returns-clause-others : goal.returns-clause-others
returns-clause-others g c =
    subst (λ (w : WheelView). KeepsElse w.objects (objects_in c.ring.new.self.places.items) c.args.pass.now
    c.ring.new.pass) c.self.view_is
    (keeps_of_far c.self.inside.table.places.items c.ring.new.self.places.items c.args.pass.now c.ring.new.pass
    c.ring.ensures.serves.far)
