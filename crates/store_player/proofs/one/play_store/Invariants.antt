use Rattle.std.proofs.Common.{◌≡◌, length, take}
use Rattle.store_script.specs.Script.{keys_of}
use Rattle.store_player.specs.Playing.{PlaysSoFar}
use Rattle.store_player.proofs.one.play_store.Given as goal

-- the commands so far were played, their answers stand in their places, and the gate was told of their calls
abbrev pub invariant-loop-place : goal.invariant-loop-place
invariant-loop-place g l = record {
  played : PlaysSoFar (keys_of l.script.commands) (take l.place l.script.commands) l.initial.pass l.pass l.slots
      (take l.place l.answers) (g.G.Gate.told l.initial.gate) (g.G.Gate.told l.gate);
  room : length l.answers ≡ length l.initial.answers;
}
