use Rattle.std.proofs.Common.{arith}
use Rattle.block_pool.proofs.Counting.{holds_one_less}
use Rattle.block_pool.proofs.Passing.{still_bare, legal_so}
use Rattle.block_pool.proofs.pool.Pool.free.Goals as goal

pub invariant_of-pass : goal.invariant_of-pass
invariant_of-pass g c =
    let x = c.pass.inside.process in
    let less = holds_one_less _ x c.free.new.self _ _ c.pass.invariant.between_calls c.free.ensures.between
    c.free.ensures.called.made.entries_after in
    record {
      between_calls = c.free.ensures.between;
      bare = still_bare _ _ _ _ _ c.free.ensures.called.made c.pass.invariant.bare;
      counted = omega (arith, less, c.pass.invariant.counted);
    }

pub returns-clause-legal : goal.returns-clause-legal
returns-clause-legal g c =
    rw (← c.pass.view_is) (legal_so _ _ _ _ c.pass.inside.process c.free.new.self c.free.ensures.between c.free.ensures.called.made)
