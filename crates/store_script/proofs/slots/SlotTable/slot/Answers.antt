use Rattle.std.proofs.Common.{arith}
use Rattle.std.proofs.lemmas.Grind.{common_steps}
use Rattle.store_script.proofs.Places.{named_next}
use Rattle.store_script.proofs.slots.SlotTable.slot.Goals as goal

pub returns-in-Vacant-clause-slot : goal.returns-in-Vacant-clause-slot
returns-in-Vacant-clause-slot c =
    named_next c.args.self.now _ c.args.key c.len-next.result
    (λ q. grind (arith, common_steps))
    (grind (arith, common_steps))
    (grind (arith, common_steps))
    (grind (arith, common_steps))
