use Rattle.std.proofs.Common.{◌≡◌, length, take, drop, ◌++◌, ap, ◌∙◌, sym, subst, arith}
use Rattle.std.proofs.lemmas.List.{take-append-le, take_all}
use Rattle.block_pool.specs.Closing.{AreAllPasses}
use Rattle.block_pool.proofs.Ordered.{played_all}
use Rattle.kept_timers.proofs.main.Goals as goal

pub finish-settled-requires : goal.finish-settled-requires
finish-settled-requires g c =
    let passes = c.in-Ok-open.passes in
    let kept = c.ring_each.new.passes in
    let value : c.as_mut_slice.result.now ≡ passes.items = c.as_mut_slice.ensures.value in
    let same : length kept ≡ length passes.items = c.ring_each.ensures.many ∙ ap length value in
    let count : passes.len ≡ length kept = passes.ok.0 ∙ sym same in
    let back : take passes.len (kept ++ drop (length kept) passes.items) ≡ kept =
    take-append-le passes.len kept _ (omega arith) ∙ take_all passes.len kept (omega arith) in
    subst (AreAllPasses c.in-Ok-open.pool) (sym back)
    (played_all c.in-Ok-open.pool passes.items kept c.in-Ok-open.ensures.passes same (rw value at c.ring_each.ensures.same))
