use Rattle.std.proofs.Common.{◌≤◌, All, take}
use Rattle.trace_player.proofs.plain.most_slots.Given as goal

abbrev pub invariant-loop-script : goal.invariant-loop-script
invariant-loop-script l = All (λ script. script.news ≤ l.most) (take l.script-index l.scripts)
