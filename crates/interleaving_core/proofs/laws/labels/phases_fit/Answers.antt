use Rattle.interleaving_core.proofs.Labels as labels
use Rattle.interleaving_core.proofs.laws.labels.phases_fit.Goals as goal

pub returns-clause-phases : goal.returns-clause-phases
returns-clause-phases c = labels.phases_fit

pub returns-clause-waiting : goal.returns-clause-waiting
returns-clause-waiting c = labels.waitings_fit
