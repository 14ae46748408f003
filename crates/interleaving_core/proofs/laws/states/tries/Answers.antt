use Rattle.interleaving_core.proofs.StateLaws.{tries_applied, failed_tries}
use Rattle.interleaving_core.proofs.laws.states.tries.Goals as goal

pub returns-clause-applied : goal.returns-clause-applied
returns-clause-applied c = tries_applied

pub returns-clause-moved : goal.returns-clause-moved
returns-clause-moved c = failed_tries
