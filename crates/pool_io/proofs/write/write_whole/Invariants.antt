use Rattle.std.proofs.Common.{◌≡◌, ℕ, ◌≤◌, ◌-◌, length, take}
use Rattle.pool_io.specs.Told.{GrowsBy}
use Rattle.pool_io.proofs.write.write_whole.Given as goal

abbrev pub invariant-loop-done : goal.invariant-loop-done
invariant-loop-done g l = record {
  within : l.done ≤ length l.bytes;
  grown : GrowsBy (g.K.Sink.written l.initial.out) (g.K.Sink.written l.out) (take l.done l.bytes);
  no_fault : g.K.Sink.faults l.out ≡ g.K.Sink.faults l.initial.out;
  takes : (room : ℕ) → g.K.Sink.takes l.initial.out room → length l.bytes ≤ room → g.K.Sink.takes l.out (room - l.done);
}

abbrev pub decreases-loop-done : goal.decreases-loop-done
decreases-loop-done g l = length l.bytes - l.done
