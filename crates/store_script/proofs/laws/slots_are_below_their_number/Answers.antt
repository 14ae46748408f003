use Rattle.std.proofs.Common.{◌<◌, sym, subst}
use Rattle.std.proofs.lemmas.List.Elements.{All-contains}
use Rattle.store_script.specs.Script.{HasSlotIn, key_of, keys_of, slot_of}
use Rattle.store_script.proofs.Places.{place_below}
use Rattle.store_script.proofs.laws.slots_are_below_their_number.Goals as goal

pub returns : goal.returns
returns c = λ script command good among.
    let at = All-contains (HasSlotIn (keys_of script.commands)) script.commands command good.each among in
    subst (λ slots. slot_of command < slots) (sym good.slots) (place_below (key_of command) (slot_of command) (keys_of script.commands) at)
