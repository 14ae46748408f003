-- Store scripts that fresh passes may play.
use Rattle.std.specs.Prelude.{◌^◌, ◌≤◌, length}
use Rattle.store_script.specs.declared.command.StoreScript.{StoreScript}
use Rattle.store_script.specs.Script.{IsWellFormed}

-- the script is well formed, and has so few commands that each of them may begin a transfer
pub record IsPlayable (script : StoreScript) : Type 0 where
  pub formed : IsWellFormed script
  pub few : length script.commands ≤ 2 ^ 32
