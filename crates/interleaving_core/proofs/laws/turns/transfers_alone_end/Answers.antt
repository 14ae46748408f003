use Rattle.interleaving_core.proofs.MovesEnd as ends
use Rattle.interleaving_core.proofs.laws.turns.transfers_alone_end.Goals as goal

pub returns : goal.returns
returns c = ends.transfers_alone_end
