use Rattle.std.specs.Prelude.{replicate}
use Rattle.schedule_replay.specs.Replays.{Makes}
use Rattle.schedule_replay.proofs.made.make_line.Given as goal

-- so many events are made
abbrev pub invariant-loop-made : goal.invariant-loop-made
invariant-loop-made l = Makes (replicate l._made l.repeat) l.initial.run l.run l.initial.notes.items l.notes.items
