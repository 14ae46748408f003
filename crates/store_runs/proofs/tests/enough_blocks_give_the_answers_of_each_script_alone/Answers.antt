use Rattle.std.proofs.Common.{[], ◌∷◌}
use Rattle.std.specs.List.{All}
use Rattle.std.proofs.lemmas.List.Elements.{All-cons, All-nil}
use Rattle.store_script.specs.declared.command.StoreScript.{StoreScript}
use Rattle.store_runs.specs.Playable.{IsPlayable}
use Rattle.store_runs.proofs.tests.enough_blocks_give_the_answers_of_each_script_alone.Goals as goal

-- both scripts are playable where each is
both_playable : (first second : StoreScript) → IsPlayable first → IsPlayable second → All IsPlayable (first ∷ second ∷ [])
both_playable first second one other =
    All-cons IsPlayable first (second ∷ []) one (All-cons IsPlayable second [] other (All-nil IsPlayable))

pub play_on_pool-requires-clause-playable : goal.play_on_pool-requires-clause-playable
play_on_pool-requires-clause-playable g c κs = both_playable _ _ c.in_ok-script_of.ensures c.in_ok-script_of-2.ensures
