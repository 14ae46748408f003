use Rattle.std.proofs.Common.{sym, subst}
use Rattle.timer_wheel.specs.Places.{Places}
use Rattle.timer_wheel.specs.Serving.{Serves}
use Rattle.timer_wheel.proofs.Serving.{came_back}
use Rattle.timer_wheel.proofs.table.Table.cut.Goals as goal

pub returns-clause-serves : goal.returns-clause-serves
returns-clause-serves g c = λ runs.
    let places = c.args.self.now.places in
    subst (λ (p : Places). Serves 8 0 c.args.steps.now c.relink.new.steps places.items p runs runs c.args.pass.now c.relink.new.pass)
    (sym (came_back places.len places.items c.as_mut_slice.result.now c.relink.new.places places.ok.0 c.as_mut_slice.ensures.value
    c.relink.auto.places))
    (subst (λ (p : Places). Serves 8 0 c.args.steps.now c.relink.new.steps p c.relink.new.places runs runs c.args.pass.now
    c.relink.new.pass) c.as_mut_slice.ensures.value (c.relink.ensures.serves runs))
