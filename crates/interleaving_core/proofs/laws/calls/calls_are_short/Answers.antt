use Rattle.interleaving_core.proofs.CallLaws as laws
use Rattle.interleaving_core.proofs.CallLawsShort as short
use Rattle.interleaving_core.proofs.laws.calls.calls_are_short.Goals as goal

pub returns-clause-short : goal.returns-clause-short
returns-clause-short c = short.calls_are_short

pub returns-clause-quanta : goal.returns-clause-quanta
returns-clause-quanta c = laws.quanta_are_kept
