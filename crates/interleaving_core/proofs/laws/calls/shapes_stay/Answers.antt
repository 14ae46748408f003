use Rattle.interleaving_core.proofs.CallLaws as laws
use Rattle.interleaving_core.proofs.laws.calls.shapes_stay.Goals as goal

pub returns : goal.returns
returns c = laws.shapes_stay
