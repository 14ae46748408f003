use Rattle.std.proofs.Common.{refl, arith, ◌≡◌, ◌++◌, ◌∷◌, []}
use Rattle.std.proofs.lemmas.Option.{slice_get_read}
use Rattle.trace_player.proofs.Turns.{none_so_far, one_more_played}
use Rattle.trace_player.proofs.plain.play_plain.Goals as goal

pub loop-process-init : goal.loop-process-init
loop-process-init c = record {
  played = rw (c.in_ok-pool.ensures, c.in_ok-tallies.ensures.items) (none_so_far _ _);
  slots = λ k d lt. omega (arith, c.most_slots.ensures k d lt, c.in_ok-slots.ensures.len);
  room = omega (arith, c.in_ok-tallies.ensures.exact);
  one_each = c.in_ok-tallies.ensures.len;
}

pub loop-process-preserved : goal.loop-process-preserved
loop-process-preserved c =
    let at =
    slice_get_read c.args.scripts.now _ c.loop-process.process c.index-scripts-process.result refl c.loop-process-test.true
    c.index-scripts-process.is in
    let pushed : c.push.new.self.items ≡ c.loop-process.tallies.items ++ c.play_script-tally.result ∷ [] =
    rw c.unwrap.ensures at c.push.ensures.items in
    let longer : _ ≡ _ = rw c.unwrap.ensures at c.push.ensures.len in
    record {
      played = rw pushed
          (one_more_played c.args.blocks c.args.scripts.now c.loop-process.process _ _ _ c.index-scripts-process.result _
          c.loop-process-test.true at c.loop-process.invariant.played c.play_script-tally.ensures);
      slots = c.loop-process.invariant.slots;
      room = omega (arith, c.push.ensures.capacity, c.loop-process.invariant.room);
      one_each = omega (arith, longer, c.loop-process.invariant.one_each);
    }
