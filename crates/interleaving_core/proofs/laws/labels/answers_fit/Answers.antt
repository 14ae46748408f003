use Rattle.interleaving_core.proofs.Labels as labels
use Rattle.interleaving_core.proofs.laws.labels.answers_fit.Goals as goal

pub returns : goal.returns
returns c = labels.answers_fit
