use Rattle.block_pool.proofs.Ordered.{ordered_are_all, opened_are_in_order, calls_keep_order}
use Rattle.block_pool.proofs.laws.ordered_passes_are_all.Goals as goal

pub returns-clause-all : goal.returns-clause-all
returns-clause-all c = ordered_are_all

pub returns-clause-opened : goal.returns-clause-opened
returns-clause-opened c = opened_are_in_order

pub returns-clause-calls : goal.returns-clause-calls
returns-clause-calls c = calls_keep_order
