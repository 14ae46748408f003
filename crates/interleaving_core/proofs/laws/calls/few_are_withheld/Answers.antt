use Rattle.interleaving_core.proofs.CallLaws as laws
use Rattle.interleaving_core.proofs.laws.calls.few_are_withheld.Goals as goal

pub returns : goal.returns
returns c = laws.few_are_withheld
