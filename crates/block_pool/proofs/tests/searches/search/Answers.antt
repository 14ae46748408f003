use Rattle.block_pool.proofs.TestedCalls.{still_held}
use Rattle.block_pool.proofs.tests.searches.search.Goals as goal

pub returns-clause-held : goal.returns-clause-held
returns-clause-held g c block there = still_held _ c.search.result _ _ block c.search.ensures.entry there
