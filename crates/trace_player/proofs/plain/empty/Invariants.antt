use Rattle.std.proofs.Common.{◌≡◌, take, None}
use Rattle.std.specs.Prelude.{replicate}
use Rattle.trace_player.proofs.plain.empty.Given as goal

abbrev pub invariant-loop-slot : goal.invariant-loop-slot
invariant-loop-slot l = take l.slot-index l.slots ≡ replicate l.slot-index None
