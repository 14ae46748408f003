use Rattle.std.proofs.Common.{None, refl, arith}
use Rattle.block_pool.proofs.Counting.{holds_few, holds_one_more}
use Rattle.block_pool.proofs.Fresh.{free_so}
use Rattle.block_pool.proofs.Passing.{allocated_so, got_is_some, dry_is_none, legal_so}
use Rattle.block_pool.proofs.pool.Pool.allocate.Goals as goal

pub overflow_add-pass : goal.overflow_add-pass
overflow_add-pass g c =
    let (called, none) = c.in-Some.ensures.called in
    let few = holds_few _ c.allocate.new.self c.allocate.ensures.between in
    let more = holds_one_more _ _ _ _ called.made.entries_after in
    omega (arith, few, more, c.pass.invariant.counted)

pub returns-in-Some-clause-legal : goal.returns-in-Some-clause-legal
returns-in-Some-clause-legal g c =
    let (called, none) = c.in-Some.ensures.called in
    rw (← c.pass.view_is) (legal_so _ _ _ _ c.pass.inside.process c.allocate.new.self c.allocate.ensures.between called.made)

pub returns-in-Some-clause-free : goal.returns-in-Some-clause-free
returns-in-Some-clause-free g c =
    let (called, none) = c.in-Some.ensures.called in
    rw (← c.pass.view_is) (free_so _ _ _ _ c.pass.inside.process c.allocate.new.self c.allocate.ensures.seat c.allocate.ensures.between
    called.made)

pub returns-in-Some-clause-plan : goal.returns-in-Some-clause-plan
returns-in-Some-clause-plan g c =
    let (called, none) = c.in-Some.ensures.called in
    rw (← c.pass.view_is) (allocated_so _ _ _ _ c.pass.inside.process c.allocate.new.self _ _ c.pass.invariant.between_calls
    c.allocate.ensures.between called none (got_is_some c.in-Some.number))

pub returns-in-None-clause-legal : goal.returns-in-None-clause-legal
returns-in-None-clause-legal g c =
    let (called, none) = c.in-None.ensures.called in
    rw (← c.pass.view_is) (legal_so _ _ _ _ c.pass.inside.process c.allocate.new.self c.allocate.ensures.between called.made)

pub returns-in-None-clause-plan : goal.returns-in-None-clause-plan
returns-in-None-clause-plan g c =
    let (called, none) = c.in-None.ensures.called in
    rw (← c.pass.view_is) (allocated_so _ _ _ _ c.pass.inside.process c.allocate.new.self _ _ c.pass.invariant.between_calls
    c.allocate.ensures.between called none (dry_is_none None refl))
