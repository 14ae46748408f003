use Rattle.std.proofs.Common.{Some}
use Rattle.std.proofs.lemmas.List.{set-set}
use Rattle.store_player.proofs.Found.{emptied_again, found_at}
use Rattle.store_player.proofs.Going.{goes_changed, goes_set_absent}
use Rattle.store_player.proofs.one.play_set.Goals as goal

pub change-requires-clause-object : goal.change-requires-clause-object
change-requires-clause-object c =
    c.requires.played.held c.args.slot _
    (found_at c.args.slots.now c.args.slot _ _ _ c.requires.within c.take.ensures.value c.in-Some.is)

pub returns-in-None : goal.returns-in-None
returns-in-None c =
    let has = found_at c.args.slots.now c.args.slot _ _ _ c.requires.within c.take.ensures.value c.in-None.is in
    rw (c.take.ensures.after, emptied_again c.args.slots.now c.args.slot has)
    (goes_set_absent c.args.key c.args.slot c.args.index c.args.number c.args.pass.now c.args.slots.now has)

pub returns-in-Some : goal.returns-in-Some
returns-in-Some c =
    let has = found_at c.args.slots.now c.args.slot _ _ _ c.requires.within c.take.ensures.value c.in-Some.is in
    rw (set-set c.args.slots.now c.args.slot c.take.new.self (Some c.change.new.object))
    (goes_changed c.args.key c.args.slot c.args.index c.args.number c.args.pass.now c.change.new.pass c.args.slots.now
    c.in-Some.object c.change.new.object c.requires.within has c.change.ensures.object c.change.ensures.kept c.change.ensures.others
    c.change.ensures.pass)
