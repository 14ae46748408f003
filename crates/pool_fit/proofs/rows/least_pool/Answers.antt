use Rattle.std.proofs.Common.{◌≡◌, ℕ, arith, subst}
use Rattle.pool_sizing.specs.Enough.{AreEnough}
use Rattle.pool_fit.proofs.Pools.{enough_has_no_fault}
use Rattle.pool_fit.proofs.rows.least_pool.Goals as goal

pub returns-in_default-enough_batches-clause-none :
    goal.returns-in_default-enough_batches-clause-none
returns-in_default-enough_batches-clause-none c = λ batches are.
    let same : c.args.live ≡ c.in-Ok.live = omega (arith, c.in-Ok.ensures) in
    c.in_default-enough_batches.ensures.none batches
    (subst (λ (n : ℕ). AreEnough c.args.processes c.args.quantum n batches) same are)

pub returns-in-Err-clause-none : goal.returns-in-Err-clause-none
returns-in-Err-clause-none c = λ batches are.
    enough_has_no_fault c.args.processes c.args.quantum c.in-Ok.live c.in-Some.batches c.in-Err.field-0 c.in-Some.ensures.least
    c.in-Err.ensures.fault
