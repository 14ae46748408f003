use Rattle.std.proofs.Common.{rules}
use Rattle.block_pool.proofs.TestedCalls.{first_called_all}
use Rattle.block_pool.proofs.tests.get_of_ten_batches.Goals as goal

pub finish-settled-requires : goal.finish-settled-requires
finish-settled-requires g c =
    first_called_all _ _ _ _ c.in_ok-pool.ensures.passes (search rules) c.index_mut-pass.ensures.value c.get_each.ensures
