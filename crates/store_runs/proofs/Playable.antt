-- Store scripts that fresh passes may play.
use Rattle.std.proofs.Common.{◌-◌, ◌^◌, ◌≤◌, List, arith}
use Rattle.std.specs.List.{All}
use Rattle.word_layout.specs.Packing.{most_age}
use Rattle.word_layout.specs.Sizes.{Sizes}
use Rattle.store_script.specs.declared.command.StoreScript.{StoreScript}
use Rattle.pass_players.specs.Settled as pass
use Rattle.store_player.specs.Player.{Suits, most_calls_of}
use Rattle.store_runs.specs.Playable.{IsPlayable}

-- over a pool whose blocks have room for a record
pub all_over : (sizes : Sizes) (scripts : List StoreScript) → 4 ≤ sizes.words → 2 ^ 35 - 1 ≤ most_age sizes → All IsPlayable scripts
    → All (pass.IsPlayable Suits most_calls_of sizes) scripts
all_over sizes scripts words many playable k d low =
    let may = playable k d low in
    record { suited = record { formed = may.formed; words = words }; few = omega (arith, many, may.few) }
