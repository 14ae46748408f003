use Rattle.interleaving_core.proofs.TurnLaws as turns
use Rattle.interleaving_core.proofs.laws.turns.transfers_are_as_asked.Goals as goal

pub returns : goal.returns
returns c = turns.transfers_begin_as_asked
