use Rattle.interleaving_core.proofs.RunMade as made
use Rattle.interleaving_core.proofs.RunCounts as counts
use Rattle.interleaving_core.proofs.RunTurns.{others_leave}
use Rattle.interleaving_core.proofs.laws.transfers.steps_count.Goals as goal

pub returns-clause-made : goal.returns-clause-made
returns-clause-made c = made.runs_make_steps

pub returns-clause-own : goal.returns-clause-own
returns-clause-own c = counts.steps_count

pub returns-clause-others : goal.returns-clause-others
returns-clause-others c = others_leave
