use Rattle.std.proofs.Common.{◌≡◌, map}
use Rattle.std.specs.List.{range_with_len}
use Rattle.interleaving_core.specs.Kept.{kept}
use Rattle.schedule_replay.proofs.replaying.kept_numbers.Given as goal

-- the numbers of so many processes
abbrev pub invariant-loop-process : goal.invariant-loop-process
invariant-loop-process l = l.numbers.items ≡ map (kept l.run) (range_with_len 0 l.process)
