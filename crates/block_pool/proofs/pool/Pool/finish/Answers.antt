use Rattle.std.proofs.Common.{ap, sym, subst}
use Rattle.block_pool.specs.Passing.{Pooled}
use Rattle.block_pool.specs.Closing.{IsClosed, SettledFits, settlement_of}
use Rattle.block_pool.proofs.Settling.{is_closed, settled_fits}
use Rattle.block_pool.proofs.pool.Pool.finish.Goals as goal

pub invariant_of-result : goal.invariant_of-result
invariant_of-result c =
    let shape = ap (λ (pool : Pooled). pool.sizes) (sym c.self.view_is) in
    subst (λ sizes. SettledFits (settlement_of sizes c.join_passes-seat.result.0.view) c.join_passes-seat.result.1) shape
    (settled_fits _ _ _ _ c.requires c.join_passes-seat.ensures)

pub returns : goal.returns
returns c =
    let shape = ap (λ (pool : Pooled). pool.sizes) (sym c.self.view_is) in
    subst (λ sizes. IsClosed c.args.self c.args.passes.items (settlement_of sizes c.join_passes-seat.result.0.view)) shape
    (is_closed _ _ _ _ c.requires c.join_passes-seat.ensures)
