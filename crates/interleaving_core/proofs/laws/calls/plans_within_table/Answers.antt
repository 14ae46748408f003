use Rattle.interleaving_core.proofs.CallLaws as laws
use Rattle.interleaving_core.proofs.laws.calls.plans_within_table.Goals as goal

pub returns : goal.returns
returns c = laws.plans_within_table
