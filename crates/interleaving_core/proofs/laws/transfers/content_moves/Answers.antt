use Rattle.interleaving_core.proofs.RunContent as content
use Rattle.interleaving_core.proofs.laws.transfers.content_moves.Goals as goal

pub returns : goal.returns
returns c = content.content_moves
