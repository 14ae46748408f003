use Rattle.std.proofs.Common.{◌≡◌, ◌<◌, ◌++◌, [], ◌∷◌, Some, None, length, map, sym, ap, subst, ◌∙◌, arith}
use Rattle.timer_wheel.specs.Places.{objects_in, running_of, timer_of}
use Rattle.timer_wheel.specs.declared.changes.Change.TheVariants.{Ended}
use Rattle.timer_wheel.specs.Tables.{AreBelow}
use Rattle.timer_wheel.specs.Timers.{payload_of, without}
use Rattle.timer_wheel.specs.Views.{WheelView, HoldsAll, KeepsElse}
use Rattle.timer_wheel.proofs.Lists.{each_filter, keep}
use Rattle.timer_wheel.proofs.Serving.{are_held_moved}
use Rattle.timer_wheel.proofs.Stops.{far_after, stop_counted}
use Rattle.timer_wheel.proofs.Viewing.{held_of_holds, holds_of_held, keeps_moved, keeps_of_far}
use Rattle.timer_wheel.proofs.Wheels.{none_ended, none_found, running_ended, runs_all, spot_found, spot_some, timers_ended, wheel_ended}
use Rattle.timer_wheel.proofs.wheel.Wheel.stop.Goals as goal

pub find-requires-clause-held : goal.find-requires-clause-held
find-requires-clause-held g c =
    held_of_holds c.self.inside.table.places.items c.args.pass.now
    (subst (λ (w : WheelView). HoldsAll w.objects c.args.pass.now) (sym c.self.view_is) c.requires.holds)

pub remove-requires-clause-held : goal.remove-requires-clause-held
remove-requires-clause-held g c =
    are_held_moved c.self.inside.table.places.items _ c.args.pass.now c.find.new.pass c.find.ensures.pass
    (held_of_holds c.self.inside.table.places.items c.args.pass.now
    (subst (λ (w : WheelView). HoldsAll w.objects c.args.pass.now) (sym c.self.view_is) c.requires.holds))

pub invariant_of-self : goal.invariant_of-self
invariant_of-self g c =
    let was = c.self.inside.table in
    let now = c.remove.new.self in
    wheel_ended was.places.items now.places.items was.free.items now.free.items was.lists.items now.lists.items was.backs.items
    now.backs.items (running_of was.changes)
    (running_of now.changes) was.running now.running c.self.inside.started c.self.invariant
    c.remove.ensures.table c.remove.ensures.backs c.remove.ensures.room
    c.remove.ensures.lists
    (subst (AreBelow c.self.inside.started)
    (sym (running_ended was.changes now.changes c.in-Some.spot.timer.number c.remove.ensures.ended))
    (each_filter (λ t. t.number < c.self.inside.started) (keep c.in-Some.spot.timer.number) (running_of was.changes)
    c.self.invariant.below))

pub returns-in-None-clause-payload : goal.returns-in-None-clause-payload
returns-in-None-clause-payload g c =
    subst (λ (w : WheelView). None ≡ payload_of c.args.key.number w.timers) c.self.view_is
    (sym (none_found c.args.key.number (running_of c.self.inside.table.changes) c.in-None.ensures.found))

pub returns-in-None-clause-timers : goal.returns-in-None-clause-timers
returns-in-None-clause-timers g c =
    let was = c.self.inside.table in
    subst (λ (w : WheelView). w.timers ≡ without c.args.key.number w.timers) c.self.view_is
    (ap (λ running. record {
      room = length was.places.items;
      now = c.self.inside.moment;
      started = c.self.inside.started;
      running = running;
    }) (none_ended c.args.key.number (running_of was.changes) c.in-None.ensures.found))

pub returns-in-None-clause-holds : goal.returns-in-None-clause-holds
returns-in-None-clause-holds g c =
    let places = c.self.inside.table.places.items in
    subst (λ (w : WheelView). HoldsAll w.objects c.find.new.pass) c.self.view_is
    (holds_of_held places c.find.new.pass
    (are_held_moved places _ c.args.pass.now c.find.new.pass c.find.ensures.pass
    (held_of_holds places c.args.pass.now
    (subst (λ (w : WheelView). HoldsAll w.objects c.args.pass.now) (sym c.self.view_is) c.requires.holds))))

pub returns-in-None-clause-others : goal.returns-in-None-clause-others
returns-in-None-clause-others g c =
    keeps_moved c.args.self.now.objects _ c.args.pass.now c.find.new.pass c.find.ensures.pass

pub returns-in-Some-clause-payload : goal.returns-in-Some-clause-payload
returns-in-Some-clause-payload g c =
    let was = c.self.inside.table in
    subst (λ (w : WheelView). Some c.in-Some.spot.timer.payload ≡ payload_of c.args.key.number w.timers) c.self.view_is
    (sym (spot_found was.places.items (length was.lists.items) c.args.key.number (running_of was.changes) c.in-Some.spot
    c.self.invariant.table.distinct c.in-Some.ensures.found.0 c.in-Some.ensures.found.1))

pub returns-in-Some-clause-timers : goal.returns-in-Some-clause-timers
returns-in-Some-clause-timers g c =
    let was = c.self.inside.table in
    let now = c.remove.new.self in
    subst (λ (w : WheelView). record {
      room = length now.places.items;
      now = c.self.inside.moment;
      started = c.self.inside.started;
      running = map timer_of (running_of now.changes);
    } ≡ without c.args.key.number w.timers) c.self.view_is
    (ap (λ room. record {
      room = room;
      now = c.self.inside.moment;
      started = c.self.inside.started;
      running = map timer_of (running_of now.changes);
    }) c.remove.ensures.room
    ∙ ap (λ running. record {
      room = length was.places.items;
      now = c.self.inside.moment;
      started = c.self.inside.started;
      running = running;
    })
    (timers_ended was.changes now.changes c.args.key.number
    (c.remove.ensures.ended ∙ ap (λ n. was.changes ++ Ended n ∷ []) c.in-Some.ensures.found.1)))

pub returns-in-Some-clause-holds : goal.returns-in-Some-clause-holds
returns-in-Some-clause-holds g c = holds_of_held c.remove.new.self.places.items c.remove.new.pass c.remove.ensures.serves.holds

pub returns-in-Some-clause-others : goal.returns-in-Some-clause-others
returns-in-Some-clause-others g c =
    let was = c.self.inside.table.places.items in
    subst (λ (w : WheelView). KeepsElse w.objects (objects_in c.remove.new.self.places.items) c.args.pass.now
    c.remove.new.pass) c.self.view_is
    (keeps_of_far was c.remove.new.self.places.items c.args.pass.now c.remove.new.pass
    (far_after was c.remove.new.self.places.items _ c.args.pass.now c.find.new.pass c.remove.new.pass c.find.ensures.pass
    c.remove.ensures.serves.far))

pub returns-in-Some-clause-steps : goal.returns-in-Some-clause-steps
returns-in-Some-clause-steps g c =
    let was = c.self.inside.table in
    let running = running_of was.changes in
    let runs = sym (ap (λ (w : WheelView). length w.timers.running) c.self.view_is)
    ∙ runs_all was.places.items was.free.items was.lists.items running was.running c.self.invariant.table in
    stop_counted was.running (length c.args.self.now.timers.running) c.args.pass.now.sizes.quantum c.find.new.pass.sizes.quantum
    c.args.steps.now c.find.new.steps c.remove.new.steps c.args.pass.now c.find.new.pass c.remove.new.pass runs
    (omega (
      arith,
      c.self.invariant.table.many,
      spot_some was.places.items (length was.lists.items) running c.in-Some.spot c.in-Some.ensures.found.0,
    ))
    (ap (λ p. p.sizes.quantum) c.find.ensures.pass) c.find.ensures.steps c.remove.ensures.serves.steps
