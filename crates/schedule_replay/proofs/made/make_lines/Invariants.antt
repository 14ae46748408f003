use Rattle.std.proofs.Common.{take, []}
use Rattle.schedule_replay.specs.Replays.{Makes, each_event}
use Rattle.schedule_replay.proofs.made.make_lines.Given as goal

-- the events of so many lines are made
abbrev pub invariant-loop-repeat : goal.invariant-loop-repeat
invariant-loop-repeat l = Makes (each_event (take l.repeat-index l.lines)) l.initial.run l.run [] l.notes.items
