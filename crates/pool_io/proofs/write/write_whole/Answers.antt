use Rattle.std.proofs.Common.{◌≡◌, ◌≤◌, ◌+◌, ◌-◌, length, ◌∙◌, subst, arith}
use Rattle.std.specs.Prelude.{slice_range}
use Rattle.pool_io.proofs.Told.{GrowsBy-take, length-rest}
use Rattle.pool_io.proofs.write.write_whole.Goals as goal

pub loop-done-preserved : goal.loop-done-preserved
loop-done-preserved g c =
    let text = c.args.bytes.now in
    let done = c.loop-done.done in
    let count = c.in_ok-done.field-0 in
    record {
      within = omega (arith, c.in_ok-done.ensures.fits, c.loop-done.invariant.within, length-rest text done);
      grown = GrowsBy-take _ _ _ text done count c.loop-done.invariant.grown c.in_ok-done.ensures.grown;
      no_fault = c.in_ok-done.ensures.no_fault ∙ c.loop-done.invariant.no_fault;
      takes = λ room holds long.
          let short : length (slice_range text done (length text)) ≤ room - done = omega (arith, length-rest text done) in
          let left : room - done - count ≡ room - (done + count) = omega arith in
          subst (g.K.Sink.takes c.write.new.self) left
          (c.in_ok-done.ensures.sure (room - done) (c.loop-done.invariant.takes room holds long) short);
    }
