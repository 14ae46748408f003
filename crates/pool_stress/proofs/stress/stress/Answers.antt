use Rattle.std.proofs.Common.{◌≡◌, length, take, drop, ◌++◌, ap, ◌∙◌, sym, subst, arith}
use Rattle.std.proofs.lemmas.List.{take-append-le, take_all}
use Rattle.block_pool.specs.Closing.{AreAllPasses}
use Rattle.pool_stress.proofs.Order.{all_there}
use Rattle.pool_stress.proofs.stress.stress.Goals as goal

pub finish-settled-requires : goal.finish-settled-requires
finish-settled-requires g c =
    let pool = c.in_ok-pool.pool in
    let passes = c.in_ok-pool.passes in
    let played = c.play_and_drain-lost.new.passes in
    let value : c.as_mut_slice.result.now ≡ passes.items = c.as_mut_slice.ensures.value in
    let same : length played ≡ length passes.items = c.play_and_drain-lost.ensures.many ∙ ap length value in
    let count : passes.len ≡ length played = passes.ok.0 ∙ sym same in
    let rest = drop (length played) passes.items in
    let back : take passes.len (played ++ rest) ≡ played =
    take-append-le passes.len played rest (omega arith) ∙ take_all passes.len played (omega arith) in
    subst (AreAllPasses pool) (sym back)
    (all_there pool passes.items played c.in_ok-pool.ensures.passes (rw value at c.play_and_drain-lost.ensures))
