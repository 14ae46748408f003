use Rattle.std.proofs.Common.{arith}
use Rattle.word_table.proofs.RisingSteps.{a_rise_keeps, rise_is_seen, miss_is_seen, met_is_above}
use Rattle.word_table.proofs.rising.raise.Goals as goal

pub compare_exchange_with-requires-clause-rule : goal.compare_exchange_with-requires-clause-rule
compare_exchange_with-requires-clause-rule g c = a_rise_keeps _ _ _ _ (omega arith)

pub returns-clause-raised : goal.returns-clause-raised
returns-clause-raised g c = rise_is_seen _ _ _ _ _ _ c.compare_exchange_with.ensures.answer c.compare_exchange_with.ensures.step

pub returns-clause-missed : goal.returns-clause-missed
returns-clause-missed g c = miss_is_seen _ _ _ _ _ _ c.compare_exchange_with.ensures.answer c.compare_exchange_with.ensures.step

pub returns-clause-risen : goal.returns-clause-risen
returns-clause-risen g c = met_is_above _ _ _ _ _ _ c.compare_exchange_with.ensures.step
