use Rattle.block_pool.proofs.TestedCalls.{still_held, got_is_held}
use Rattle.block_pool.proofs.tests.allocate.Goals as goal
use Rattle.block_pool.proofs.tests.allocate.Goals.{in-Got, in-Dry}

pub returns-clause-held : goal.returns-clause-held
returns-clause-held g c block there = still_held _ c.allocate.result _ _ block c.allocate.ensures.entry there

pub returns-clause-got : goal.returns-clause-got
returns-clause-got g c = elim c.match-allocate.branch [
  | in-Got w ↦ got_is_held _ _ _ _ _ _ w.in-Got.ensures.entry w.number.ensures w.block-is
  | in-Dry w ↦ rw w.block-is tt
]
