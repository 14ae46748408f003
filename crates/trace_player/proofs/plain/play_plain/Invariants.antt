use Rattle.std.proofs.Common.{◌≡◌, ◌≤◌, All, length, vec_len, vec_capacity}
use Rattle.trace_player.proofs.Turns.{PlayedSoFar}
use Rattle.trace_player.proofs.plain.play_plain.Given as goal

-- the scripts so far were played in turn, and there is room for the slots and the tallies of all
abbrev pub invariant-loop-process : goal.invariant-loop-process
invariant-loop-process l = record {
  played : PlayedSoFar l.blocks l.scripts l.process l.pool l.tallies.items;
  slots : All (λ script. script.news ≤ vec_len l.slots) l.scripts;
  room : length l.scripts ≤ vec_capacity l.tallies;
  one_each : vec_len l.tallies ≡ l.process;
}
