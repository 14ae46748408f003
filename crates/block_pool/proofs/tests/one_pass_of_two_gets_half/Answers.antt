use Rattle.std.proofs.Common.{rules}
use Rattle.block_pool.proofs.TestedCalls.{first_called_all, same_again}
use Rattle.block_pool.proofs.tests.one_pass_of_two_gets_half.Goals as goal

pub finish-settled-requires : goal.finish-settled-requires
finish-settled-requires g c =
    first_called_all _ _ _ _ c.in_ok-pool.ensures.passes (search rules) c.index_mut-pass.ensures.value
    (same_again _ _ _ c.get_first.ensures.pass
    (same_again _ _ _ c.allocate.ensures.pass (same_again _ _ _ c.free.ensures.pass c.allocate-2.ensures.pass)))
