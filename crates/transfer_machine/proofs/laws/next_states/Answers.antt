use Rattle.transfer_machine.proofs.NextStates.{drafts_are_next_states}
use Rattle.transfer_machine.proofs.laws.next_states.Goals as goal

pub returns : goal.returns
returns c = drafts_are_next_states
