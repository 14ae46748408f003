use Rattle.std.proofs.Common.{◌≡◌, ◌*◌, ◌^◌, ◌≤◌, take}
use Rattle.pool_fit.specs.Moves.{waste_of}
use Rattle.pool_fit.proofs.classes.waste.Given as goal

-- the waste of the moves so far
abbrev pub invariant-loop-step : goal.invariant-loop-step
invariant-loop-step l = record {
  waste : l.waste ≡ waste_of l.size (take l.step-index l.moves);
  few : l.waste ≤ 2 ^ 32 * l.step-index;
}
