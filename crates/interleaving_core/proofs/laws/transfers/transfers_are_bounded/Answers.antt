use Rattle.interleaving_core.proofs.RunCounts as counts
use Rattle.interleaving_core.proofs.laws.transfers.transfers_are_bounded.Goals as goal

pub returns : goal.returns
returns c = counts.transfers_are_bounded
