use Rattle.word_table.proofs.RisingSteps.{a_load_keeps, met_is_seen, met_is_above}
use Rattle.word_table.proofs.rising.look.Goals as goal

pub load-requires-clause-rule : goal.load-requires-clause-rule
load-requires-clause-rule g c = a_load_keeps _ _

pub returns-clause-seen : goal.returns-clause-seen
returns-clause-seen g c = met_is_seen _ _ _ _ _ c.load.ensures.step

pub returns-clause-risen : goal.returns-clause-risen
returns-clause-risen g c = met_is_above _ _ _ _ _ _ c.load.ensures.step
