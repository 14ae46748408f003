use Rattle.std.proofs.Common.{Some, ap, sym, ◌∙◌}
use Rattle.std.proofs.lemmas.List.Elements.{All-contains}
use Rattle.store_script.specs.Script.{HasSlotIn, key_of, keys_of, slot_of}
use Rattle.store_script.proofs.Places.{one_key}
use Rattle.store_script.proofs.laws.each_slot_is_of_one_key.Goals as goal

pub returns : goal.returns
returns c = λ script one other good first second same.
    let keys = keys_of script.commands in
    let here = All-contains (HasSlotIn (keys_of script.commands)) script.commands one good.each first in
    let there = All-contains (HasSlotIn (keys_of script.commands)) script.commands other good.each second in
    one_key (key_of one) (key_of other) (slot_of one) (keys_of script.commands) here (there ∙ ap Some (sym same))
