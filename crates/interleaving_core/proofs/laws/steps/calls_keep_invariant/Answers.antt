use Rattle.interleaving_core.proofs.Due.{calls_are_due, calls_keep_invariant}
use Rattle.interleaving_core.proofs.laws.steps.calls_keep_invariant.Goals as goal

pub returns-clause-due : goal.returns-clause-due
returns-clause-due c = calls_are_due

pub returns-clause-kept : goal.returns-clause-kept
returns-clause-kept c = calls_keep_invariant
