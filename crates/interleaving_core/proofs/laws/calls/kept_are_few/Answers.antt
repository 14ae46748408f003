use Rattle.interleaving_core.proofs.CallLaws as laws
use Rattle.interleaving_core.proofs.KeptFollows as follows
use Rattle.interleaving_core.proofs.laws.calls.kept_are_few.Goals as goal

pub returns-clause-five : goal.returns-clause-five
returns-clause-five c = laws.each_keeps_five

pub returns-clause-all : goal.returns-clause-all
returns-clause-all c = laws.all_are_counted

pub returns-clause-follows : goal.returns-clause-follows
returns-clause-follows c = follows.kept_follows_calls
