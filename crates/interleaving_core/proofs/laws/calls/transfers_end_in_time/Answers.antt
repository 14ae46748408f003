use Rattle.interleaving_core.proofs.CallLaws as laws
use Rattle.interleaving_core.proofs.CallLawsAges as ages
use Rattle.interleaving_core.proofs.laws.calls.transfers_end_in_time.Goals as goal

pub returns-clause-short : goal.returns-clause-short
returns-clause-short c = ages.transfers_are_short

pub returns-clause-account : goal.returns-clause-account
returns-clause-account c = laws.transfers_end_in_time
