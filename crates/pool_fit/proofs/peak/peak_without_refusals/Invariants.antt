use Rattle.std.proofs.Common.{take}
use Rattle.trace_player.specs.Tally.{is_place}
use Rattle.pool_fit.specs.Peaks.{is_leave}
use Rattle.pool_fit.specs.Tides.{IsTideOf}
use Rattle.pool_fit.proofs.peak.peak_without_refusals.Given as goal

-- the steps so far are counted
abbrev pub invariant-loop-step : goal.invariant-loop-step
invariant-loop-step l = IsTideOf is_place is_leave (take l.step-index l.step-items) l.tide
