use Rattle.pool_invariant.proofs.Counted.{step_nearer}
use Rattle.pool_invariant.proofs.Ending.{moving_unless_rest, ends}
use Rattle.pool_invariant.proofs.laws.transfers_end.Goals as goal

pub returns-clause-nearer : goal.returns-clause-nearer
returns-clause-nearer c sizes v word index few moving after =
    step_nearer sizes v word v.next index few (moving_unless_rest _ after) (moving_unless_rest v.next moving)

pub returns-clause-ends : goal.returns-clause-ends
returns-clause-ends c sizes n views words some steps = ends sizes n views words some steps
