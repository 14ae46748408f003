use Rattle.interleaving_core.proofs.TurnLaws as turns
use Rattle.interleaving_core.proofs.laws.turns.turns_make_steps.Goals as goal

pub returns-clause-made : goal.returns-clause-made
returns-clause-made c = turns.turns_make_steps

pub returns-clause-ignored : goal.returns-clause-ignored
returns-clause-ignored c = turns.other_turns_are_ignored
