use Rattle.std.proofs.Common.{take}
use Rattle.trace_player.specs.Playing.{IsPlayed}
use Rattle.trace_player.proofs.plain.play_script.Given as goal

-- the steps so far were played
abbrev pub invariant-loop-step : goal.invariant-loop-step
invariant-loop-step l = IsPlayed l.by l.script (take l.step-index l.step-items) l.initial.pool l.pool l.slots l.tally
