use Rattle.std.proofs.Common.{ap, ◌∙◌}
use Rattle.timer_wheel.specs.Places.{objects_in}
use Rattle.timer_wheel.proofs.Viewing.{no_objects}
use Rattle.timer_wheel.proofs.wheel.Wheel.open.Goals as goal

pub returns-clause-objects : goal.returns-clause-objects
returns-clause-objects c = ap objects_in c.in_ok-open.ensures.places ∙ no_objects c.args.room
