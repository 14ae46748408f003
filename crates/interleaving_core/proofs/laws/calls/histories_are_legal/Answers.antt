use Rattle.interleaving_core.proofs.CallLaws.{none_is_held_twice}
use Rattle.interleaving_core.proofs.laws.calls.histories_are_legal.Goals as goal

pub returns-clause-once : goal.returns-clause-once
returns-clause-once c = none_is_held_twice
