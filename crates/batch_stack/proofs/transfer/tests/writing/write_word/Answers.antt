use Rattle.std.proofs.Common.{rules}
use Rattle.batch_stack.proofs.Written.{writes_can, writes_next, writes_on}
use Rattle.batch_stack.proofs.transfer.tests.writing.write_word.Goals as goal

pub step-requires-clause-may : goal.step-requires-clause-may
step-requires-clause-may c = record {
  of_table = c.requires.at.0;
  whole = c.requires.at.1;
  room = search rules;
  can = writes_can _ _ c.requires.writes;
}

pub step-requires-clause-writes : goal.step-requires-clause-writes
step-requires-clause-writes c = writes_next _ _ c.requires.writes

pub returns-clause-on : goal.returns-clause-on
returns-clause-on c goes = writes_on _ _ _ _ _ c.requires.writes c.step.ensures.written (c.step.ensures.on goes) goes
