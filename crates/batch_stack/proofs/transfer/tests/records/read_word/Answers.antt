use Rattle.std.proofs.Common.{rules}
use Rattle.word_layout.specs.declared.announced.Wish.TheVariants.{Take}
use Rattle.batch_stack.proofs.InTry.{reads_on}
use Rattle.batch_stack.proofs.transfer.tests.records.read_word.Goals as goal

pub step-requires-clause-may : goal.step-requires-clause-may
step-requires-clause-may c =
    record { of_table = c.requires.at.0; whole = c.requires.at.1; room = search rules; can = (c.requires.reads.on Take).0 }

pub step-requires-clause-reads : goal.step-requires-clause-reads
step-requires-clause-reads c = (c.requires.reads.on Take).1

pub returns-clause-on : goal.returns-clause-on
returns-clause-on c goes = reads_on _ _ _ _ _ c.step.ensures.read (c.step.ensures.on goes)
