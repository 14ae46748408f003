use Rattle.interleaving_core.proofs.Replies.{answers_are_replies}
use Rattle.interleaving_core.proofs.laws.steps.answers_are_replies.Goals as goal

pub returns : goal.returns
returns c = answers_are_replies
