use Rattle.interleaving_core.proofs.RunStates as states
use Rattle.interleaving_core.proofs.laws.transfers.two_tries_apply.Goals as goal

pub returns : goal.returns
returns c = states.two_tries_apply
