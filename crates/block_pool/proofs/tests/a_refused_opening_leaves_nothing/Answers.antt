use Rattle.block_pool.proofs.Ordered.{ordered_are_all, opened_are_in_order}
use Rattle.block_pool.proofs.tests.a_refused_opening_leaves_nothing.Goals as goal

pub finish-settled-requires : goal.finish-settled-requires
finish-settled-requires g c = ordered_are_all _ _ (opened_are_in_order _ _ c.in_ok-pool.ensures.passes)
