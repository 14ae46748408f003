use Rattle.store_player.proofs.Found.{emptied_again, found_at}
use Rattle.store_player.proofs.Going.{goes_del_absent, goes_deleted}
use Rattle.store_player.proofs.Whole.{next_has_age}
use Rattle.store_player.proofs.one.play_del.Goals as goal

pub take-requires-in-Some-clause-age : goal.take-requires-in-Some-clause-age
take-requires-in-Some-clause-age g c = next_has_age _ _ _ _ c.requires

pub take-requires-in-Some-clause-object : goal.take-requires-in-Some-clause-object
take-requires-in-Some-clause-object g c =
    c.requires.played.held c.args.slot _
    (found_at c.args.slots.now c.args.slot _ _ _ c.requires.within c.take.ensures.value c.in-Some.is)

pub returns-in-None : goal.returns-in-None
returns-in-None g c =
    let has = found_at c.args.slots.now c.args.slot _ _ _ c.requires.within c.take.ensures.value c.in-None.is in
    rw (c.take.ensures.after, emptied_again c.args.slots.now c.args.slot has)
    (goes_del_absent c.args.key c.args.slot c.args.pass.now c.args.slots.now has (g.G.Gate.told c.args.gate.now))

pub returns-in-Some : goal.returns-in-Some
returns-in-Some g c =
    let has = found_at c.args.slots.now c.args.slot _ _ _ c.requires.within c.take.ensures.value c.in-Some.is in
    rw c.take.ensures.after
    (goes_deleted c.args.key c.args.slot c.args.pass.now c.take-in-Some.new.pass c.args.slots.now (g.G.Gate.told c.args.gate.now)
    (g.G.Gate.told c.take-in-Some.new.gate) c.in-Some.object c.requires.within has c.take-in-Some.ensures.calls
    c.take-in-Some.ensures.others c.take-in-Some.ensures.told)
