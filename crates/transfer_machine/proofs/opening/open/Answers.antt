use Rattle.transfer_machine.proofs.Filled.{opened}
use Rattle.transfer_machine.proofs.opening.open.Goals as goal

pub returns : goal.returns
returns c =
    opened c.args.shape.now c.args.words.now c.set.new.words c.open_record.new.words c.open_slots.new.words c.open_chains.new.words
    c.requires c.set.ensures c.open_record.ensures c.open_slots.ensures c.open_chains.ensures
