use Rattle.pool_table.proofs.Opened.{first_holds, first_among}
use Rattle.pool_table.proofs.opening.open_table.Goals as goal

pub open-requires : goal.open-requires
open-requires c = first_holds _ _ c.processes.ensures.shape c.in_ok-words.ensures

pub returns-clause-among : goal.returns-clause-among
returns-clause-among c = first_among _ _ _ c.processes.ensures.shape c.in_ok-words.ensures c.in_ok-table.ensures.view
