-- Players of store scripts that are ready to play over a pool of their own.
use Rattle.std.specs.Prelude.{◌≡◌, ℕ, List, length}
use Rattle.word_layout.specs.Sizes.{Sizes}
use Rattle.store_script.specs.declared.command.StoreScript.{StoreScript}
use Rattle.store_script.specs.declared.answered.Answered.{Answered}
use Rattle.pass_players.specs.declared.preparing.Prepared.{Prepared}
use Rattle.pass_players.specs.Prepared.{IsFresh, IsPrepared, pool_in}
use Rattle.store_player.specs.declared.player.StorePlayer.{StorePlayer}
use Rattle.store_player.specs.Player.{HasSlots, Suits, most_calls_of}

-- the shape of the pool that they play over
abbrev pub sizes_in : {G : Type 0} → Prepared StorePlayer (List Answered) G → Sizes
sizes_in prepared = (pool_in prepared).sizes

-- the pool was just opened; there is a script for each of its processes, which may play it and has a player that is ready for it; and there
-- is room for so many gates
pub record IsReady {G : Type 0} (scripts : List StoreScript) (gates : ℕ) (prepared : Prepared StorePlayer (List Answered) G)
    : Type 0 where
  pub players : IsPrepared Suits most_calls_of HasSlots scripts gates prepared
  pub fresh : IsFresh (sizes_in prepared) prepared
  pub one_each : length scripts ≡ (sizes_in prepared).processes
