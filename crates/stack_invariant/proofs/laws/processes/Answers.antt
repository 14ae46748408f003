use Rattle.stack_invariant.proofs.Follows.{each_process}
use Rattle.stack_invariant.proofs.laws.processes.Goals as goal

pub returns : goal.returns
returns c = each_process
