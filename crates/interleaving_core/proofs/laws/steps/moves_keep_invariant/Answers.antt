use Rattle.interleaving_core.proofs.Due.{moves_are_due, moves_keep_invariant}
use Rattle.interleaving_core.proofs.laws.steps.moves_keep_invariant.Goals as goal

pub returns-clause-due : goal.returns-clause-due
returns-clause-due c = moves_are_due

pub returns-clause-kept : goal.returns-clause-kept
returns-clause-kept c = moves_keep_invariant
