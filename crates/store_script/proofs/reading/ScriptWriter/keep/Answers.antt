use Rattle.std.proofs.Common.{arith}
use Rattle.std.proofs.lemmas.Grind.{common_steps}
use Rattle.store_script.proofs.Writing.{keeps}
use Rattle.store_script.proofs.reading.ScriptWriter.keep.Goals as goal

pub returns-clause-kept : goal.returns-clause-kept
returns-clause-kept c =
    keeps c.args.self.now _ c.args.request c.in_ok-slot.slot (rw c.key.ensures at c.in_ok-slot.ensures.slot) (grind (arith, common_steps))
