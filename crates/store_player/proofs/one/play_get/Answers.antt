use Rattle.store_player.proofs.Found.{found_at}
use Rattle.store_player.proofs.Going.{goes_get_absent, goes_value}
use Rattle.store_player.proofs.one.play_get.Goals as goal

pub get-value-requires-clause-object : goal.get-value-requires-clause-object
get-value-requires-clause-object c =
    c.requires.played.held c.args.slot _
    (found_at c.args.slots.now c.args.slot _ _ _ c.requires.within c.index-slots-slot.is c.in-Some.is)

pub returns-in-None : goal.returns-in-None
returns-in-None c =
    goes_get_absent c.args.key c.args.slot c.args.pass.now c.args.slots.now
    (found_at c.args.slots.now c.args.slot _ _ _ c.requires.within c.index-slots-slot.is c.in-None.is)

pub returns-in-Some : goal.returns-in-Some
returns-in-Some c =
    rw c.get-value.ensures.value
    (goes_value c.args.key c.args.slot c.args.pass.now c.get-value.new.pass c.args.slots.now c.in-Some.object
    (found_at c.args.slots.now c.args.slot _ _ _ c.requires.within c.index-slots-slot.is c.in-Some.is) c.get-value.ensures.pass)
