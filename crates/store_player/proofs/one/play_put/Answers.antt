use Rattle.std.proofs.Common.{◌∙◌, refl, sym}
use Rattle.store_player.proofs.Found.{found_at, has_none, has_some}
use Rattle.store_player.proofs.Going.{goes_full, goes_got, goes_there}
use Rattle.store_player.proofs.Whole.{next_has_age}
use Rattle.store_player.proofs.one.play_put.Goals as goal

pub put-requires-clause-age : goal.put-requires-clause-age
put-requires-clause-age g c = next_has_age _ _ _ _ c.requires

pub returns-then-is_some : goal.returns-then-is_some
returns-then-is_some g c =
    let found = has_some _ (sym c.is_some.ensures ∙ c.if-is_some.true) in
    goes_there c.args.key c.args.slot c.args.value c.args.pass.now c.args.slots.now found.0
    (found_at c.args.slots.now c.args.slot c.index-slots-place.result _ _ c.requires.within refl found.1)
    (g.G.Gate.told c.args.gate.now)

pub returns-in-Stored : goal.returns-in-Stored
returns-in-Stored g c =
    let none = has_none _ (sym c.is_some.ensures ∙ c.if-is_some.false) in
    let has = found_at c.args.slots.now c.args.slot c.index-slots-place.result _ _ c.requires.within refl none in
    goes_got c.args.key c.args.slot c.args.value c.args.pass.now c.put.new.pass c.args.slots.now (g.G.Gate.told c.args.gate.now)
    (g.G.Gate.told c.put.new.gate) c.in-Stored.object c.requires.within has c.in-Stored.ensures.calls c.in-Stored.ensures.put
    c.in-Stored.ensures.told

pub returns-in-Full : goal.returns-in-Full
returns-in-Full g c =
    let none = has_none _ (sym c.is_some.ensures ∙ c.if-is_some.false) in
    let has = found_at c.args.slots.now c.args.slot c.index-slots-place.result _ _ c.requires.within refl none in
    goes_full c.args.key c.args.slot c.args.value c.args.pass.now c.put.new.pass c.args.slots.now (g.G.Gate.told c.args.gate.now)
    (g.G.Gate.told c.put.new.gate) c.in-Full.field-0 has c.in-Full.ensures.calls c.in-Full.ensures.put c.in-Full.ensures.told
