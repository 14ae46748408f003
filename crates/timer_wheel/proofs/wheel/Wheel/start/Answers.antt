use Rattle.std.proofs.Common.{refl, sym, subst}
use Rattle.timer_wheel.specs.Places.{objects_in}
use Rattle.timer_wheel.specs.Views.{WheelView, HoldsAll, KeepsElse}
use Rattle.timer_wheel.proofs.Viewing.{held_of_holds, holds_of_held, keeps_of_far}
use Rattle.timer_wheel.proofs.Wheels.{wheel_started}
use Rattle.timer_wheel.proofs.wheel.Wheel.start.Goals as goal

pub start-requires-clause-held : goal.start-requires-clause-held
start-requires-clause-held g c =
    held_of_holds c.self.inside.table.places.items c.args.pass.now
    (subst (λ (w : WheelView). HoldsAll w.objects c.args.pass.now) (sym c.self.view_is) c.requires.holds)

pub invariant_of-self : goal.invariant_of-self
invariant_of-self g c =
    let was = c.self.inside.table in
    let now = c.start.new.self in
    wheel_started was.places.items now.places.items was.free.items now.free.items was.lists.items now.lists.items was.backs.items
    now.backs.items was.changes now.changes was.running now.running c.self.inside.started _ c.self.invariant
    c.in-Running.ensures.table c.in-Running.ensures.backs c.in-Running.ensures.room
    c.in-Running.ensures.lists c.in-Running.ensures.began.1 refl

pub returns-in-Running-clause-holds : goal.returns-in-Running-clause-holds
returns-in-Running-clause-holds g c = holds_of_held c.start.new.self.places.items c.start.new.pass c.in-Running.ensures.serves.holds

pub returns-in-Running-clause-others : goal.returns-in-Running-clause-others
returns-in-Running-clause-others g c =
    subst (λ (w : WheelView). KeepsElse w.objects (objects_in c.start.new.self.places.items) c.args.pass.now
    c.start.new.pass) c.self.view_is
    (keeps_of_far c.self.inside.table.places.items c.start.new.self.places.items c.args.pass.now c.start.new.pass
    c.in-Running.ensures.serves.far)

pub returns-in-Crowded-clause-holds : goal.returns-in-Crowded-clause-holds
returns-in-Crowded-clause-holds g c = holds_of_held c.start.new.self.places.items c.start.new.pass c.in-Crowded.ensures.serves.holds

pub returns-in-Crowded-clause-others : goal.returns-in-Crowded-clause-others
returns-in-Crowded-clause-others g c =
    subst (λ (w : WheelView). KeepsElse w.objects (objects_in c.start.new.self.places.items) c.args.pass.now
    c.start.new.pass) c.self.view_is
    (keeps_of_far c.self.inside.table.places.items c.start.new.self.places.items c.args.pass.now c.start.new.pass
    c.in-Crowded.ensures.serves.far)

pub returns-in-Full-clause-holds : goal.returns-in-Full-clause-holds
returns-in-Full-clause-holds g c = holds_of_held c.start.new.self.places.items c.start.new.pass c.in-Full.ensures.serves.holds

pub returns-in-Full-clause-others : goal.returns-in-Full-clause-others
returns-in-Full-clause-others g c =
    subst (λ (w : WheelView). KeepsElse w.objects (objects_in c.start.new.self.places.items) c.args.pass.now
    c.start.new.pass) c.self.view_is
    (keeps_of_far c.self.inside.table.places.items c.start.new.self.places.items c.args.pass.now c.start.new.pass
    c.in-Full.ensures.serves.far)
