use Rattle.interleaving_core.proofs.RunSteps as steps
use Rattle.interleaving_core.proofs.laws.transfers.transfers_end.Goals as goal

pub returns-clause-going : goal.returns-clause-going
returns-clause-going c = steps.transfers_end

pub returns-clause-whole : goal.returns-clause-whole
returns-clause-whole c = steps.whole_transfers_end
