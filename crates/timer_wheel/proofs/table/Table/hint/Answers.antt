use Rattle.std.proofs.Common.{◌≡◌, Some, ap, sym, ◌∙◌}
use Rattle.timer_wheel.specs.Places.{Places, running_of, value_at}
use Rattle.timer_wheel.proofs.Hinting.{hint_spot}
use Rattle.timer_wheel.proofs.table.Table.hint.Goals as goal

pub returns-clause-spot : goal.returns-clause-spot
returns-clause-spot g c =
    let was = c.args.self.now in
    let read : value_at was.places.items c.args.key.place ≡ Some c.in_ok-timer.timer
    = ap (λ (p : Places). value_at p c.args.key.place) (sym c.as_slice.ensures.value) ∙ sym c.read.ensures.value ∙ c.in_ok-timer.was in
    hint_spot was.places.items was.free.items was.lists.items (running_of was.changes) was.running c.requires.table was.backs.items
    c.requires.backs c.args.key.place c.in_ok-timer.timer read c.list_of.result c.index.result.now c.list_of.ensures c.index.ensures
