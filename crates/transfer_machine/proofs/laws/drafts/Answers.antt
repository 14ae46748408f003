use Rattle.transfer_machine.proofs.Drafts.{steps_keep_draft}
use Rattle.transfer_machine.proofs.laws.drafts.Goals as goal

pub returns : goal.returns
returns c = steps_keep_draft
