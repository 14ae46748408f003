-- Scripts that fresh passes may play.
use Rattle.std.proofs.Common.{◌^◌, ◌≤◌, zero, suc, List, [], ◌∷◌, arith}
use Rattle.std.specs.List.{All}
use Rattle.word_layout.specs.Sizes.{Sizes}
use Rattle.word_layout.specs.Packing.{most_age}
use Rattle.mtrace_reader.specs.declared.steps.Script.{Script}
use Rattle.pass_players.specs.Settled as pass
use Rattle.pool_player.specs.Player.{Suits, most_calls_of}
use Rattle.pool_runs.specs.Playable.{IsPlayable}

-- what holds of one script holds of each in the list of it alone
pub all_of_one : (script : Script) → IsPlayable script → All IsPlayable (script ∷ [])
all_of_one script playable zero d low = playable
all_of_one script playable (suc k) d low = absurd (omega (arith, low))

-- over a pool whose processes may begin as many transfers
pub all_over : (sizes : Sizes) (scripts : List Script) → 2 ^ 32 ≤ most_age sizes → All IsPlayable scripts
    → All (pass.IsPlayable Suits most_calls_of sizes) scripts
all_over sizes scripts many playable k d low =
    let may = playable k d low in
    record { suited = may.formed; few = omega (arith, may.few, many) }
