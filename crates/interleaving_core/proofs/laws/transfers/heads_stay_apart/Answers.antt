use Rattle.interleaving_core.proofs.RunHeads as heads
use Rattle.interleaving_core.proofs.laws.transfers.heads_stay_apart.Goals as goal

pub returns : goal.returns
returns c = heads.heads_stay_apart
