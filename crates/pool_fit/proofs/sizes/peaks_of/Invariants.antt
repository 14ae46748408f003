use Rattle.std.proofs.Common.{◌≡◌, ◌*◌, ◌^◌, ◌≤◌, take}
use Rattle.trace_player.specs.Plain.{peaks_without_refusals}
use Rattle.pool_fit.proofs.sizes.peaks_of.Given as goal

-- the sum over the scripts so far
abbrev pub invariant-loop-script : goal.invariant-loop-script
invariant-loop-script l = record {
  sum : l.sum ≡ peaks_without_refusals (take l.script-index l.scripts);
  few : l.sum ≤ 2 ^ 64 * l.script-index;
}
