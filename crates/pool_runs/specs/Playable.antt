-- Scripts that fresh passes may play.
use Rattle.std.specs.Prelude.{◌^◌, ◌≤◌, length}
use Rattle.mtrace_reader.specs.declared.steps.Script.{Script}
use Rattle.mtrace_reader.specs.Script.{IsWellFormed}

-- the script is well formed, and has so few steps that each of them may begin a transfer
pub record IsPlayable (script : Script) : Type 0 where
  pub formed : IsWellFormed script
  pub few : length script.steps ≤ 2 ^ 32
