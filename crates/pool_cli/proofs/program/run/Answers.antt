use Rattle.pool_cli.proofs.Endings.{enough, sure, unhindered}
use Rattle.pool_cli.proofs.program.run.Goals as goal

pub returns-clause-ends : goal.returns-clause-ends
returns-clause-ends g c = record {
  ending = c.after-worked.result.ending;
  cause = rw (c.after-worked.ensures.settled, c.after-worked.ensures.ending) c.work.ensures;
  line = (c.tell.result, c.tell.ensures);
  answered = c.status.ensures;
}

pub returns-clause-unhindered : goal.returns-clause-unhindered
returns-clause-unhindered g c = unhindered _ _ _ _ _ _ c.status.result (returns-clause-ends g c)

pub returns-clause-sure : goal.returns-clause-sure
returns-clause-sure g c = sure _ _ _ _ _ _ c.status.result (returns-clause-ends g c)

pub returns-clause-enough : goal.returns-clause-enough
returns-clause-enough g c = enough _ _ _ _ _ _ c.status.result (returns-clause-ends g c)
