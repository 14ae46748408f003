use Rattle.interleaving_core.proofs.CallLaws as laws
use Rattle.interleaving_core.proofs.laws.calls.holders_hold.Goals as goal

pub returns : goal.returns
returns c = laws.holders_hold
