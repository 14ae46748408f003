use Rattle.std.proofs.Common.{◌≡◌, ℕ, ◌<◌, length}
use Rattle.std.specs.Prelude.{slice_index}
use Rattle.timer_wheel.proofs.table.all_places.Given as goal

abbrev pub invariant-loop-place : goal.invariant-loop-place
invariant-loop-place l = record {
  many : length l.free.items ≡ l.place;
  each : (i : ℕ) → i < l.place → slice_index l.free.items i ≡ i;
}
