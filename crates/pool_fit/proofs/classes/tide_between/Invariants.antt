use Rattle.std.proofs.Common.{take}
use Rattle.pool_fit.specs.Moves.{gives, takes}
use Rattle.pool_fit.specs.Tides.{IsTideOf}
use Rattle.pool_fit.proofs.classes.tide_between.Given as goal

-- the moves so far are counted
abbrev pub invariant-loop-step : goal.invariant-loop-step
invariant-loop-step l = IsTideOf (takes l.least l.most) (gives l.least l.most) (take l.step-index l.moves) l.tide
