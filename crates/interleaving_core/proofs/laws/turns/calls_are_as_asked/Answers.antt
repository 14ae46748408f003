use Rattle.interleaving_core.proofs.AnsweredAs as answered
use Rattle.interleaving_core.proofs.TurnLaws as turns
use Rattle.interleaving_core.proofs.laws.turns.calls_are_as_asked.Goals as goal

pub returns-clause-begin : goal.returns-clause-begin
returns-clause-begin c = turns.calls_begin_as_asked

pub returns-clause-stay : goal.returns-clause-stay
returns-clause-stay c = turns.calls_stay

pub returns-clause-answered : goal.returns-clause-answered
returns-clause-answered c = answered.calls_are_answered_as_asked
