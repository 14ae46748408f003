use Rattle.interleaving_core.proofs.MovingAnswers as answers
use Rattle.interleaving_core.proofs.laws.moving.calls_are_answered.Goals as goal

pub returns : goal.returns
returns c = answers.calls_are_answered
