use Rattle.std.proofs.Common.{take}
use Rattle.pool_player.specs.Playing.{PlaysSoFar}
use Rattle.pool_player.proofs.one.play_one.Given as goal

-- the steps so far were played, and the gate was told of their calls
abbrev pub invariant-loop-step : goal.invariant-loop-step
invariant-loop-step g l =
    PlaysSoFar l.script (take l.step-index l.step-items) (g.G.Gate.told l.initial.gate) (g.G.Gate.told l.gate) l.initial.pass l.pass l.slots
    l.tally
