-- What playing store scripts over a pool of their own leaves.
use Rattle.std.specs.Prelude.{◌≡◌, ℕ, List}
use Rattle.word_layout.specs.Sizes.{Sizes, limits_of}
use Rattle.block_pool.specs.Closing.{Settlement}
use Rattle.store_script.specs.declared.command.StoreScript.{StoreScript}
use Rattle.store_script.specs.declared.answered.Answered.{Answered}
use Rattle.pass_players.specs.Moments.{Moment}
use Rattle.pass_players.specs.Settled as players
use Rattle.store_player.specs.Player.{IsServed}
use Rattle.store_runs.specs.Enough.{HasEnough, answers_without_refusals}

-- the entries of process k in the history are those of calls that fit its script, with refusals that they determine; the answers are those
-- with these; each command took its steps; and gate k was told of the moment before each of these calls, and of no other
abbrev pub HasAnswers : List (List Moment) → List (List Moment) → Settlement → ℕ → StoreScript → List Answered → Type 0
HasAnswers = players.FitsIn IsServed

-- the pool had this shape and was closed with one legal history, which has the answers to each script; with enough blocks the answers
-- follow from the scripts alone
pub record IsSettledBy (told_before told_now : List (List Moment)) (sizes : Sizes) (scripts : List StoreScript)
    (lists : List (List Answered)) (settled : Settlement) : Type 0 where
  pub played : players.IsSettledBy IsServed told_before told_now sizes scripts lists settled
  pub unrefused : HasEnough (limits_of sizes) scripts → lists ≡ answers_without_refusals scripts
