use Rattle.interleaving_core.proofs.RunStates.{runs_show_states}
use Rattle.interleaving_core.proofs.laws.transfers.states_are_shown.Goals as goal

pub returns : goal.returns
returns c = runs_show_states
