use Rattle.interleaving_core.proofs.CallLawsData.{data_is_kept, writes_store}
use Rattle.interleaving_core.proofs.laws.calls.data_is_kept.Goals as goal

pub returns-clause-kept : goal.returns-clause-kept
returns-clause-kept c = data_is_kept

pub returns-clause-writes : goal.returns-clause-writes
returns-clause-writes c = writes_store
