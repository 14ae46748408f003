-- Players of traces that are ready to play over a pool of their own.
use Rattle.std.specs.Prelude.{◌≡◌, ℕ, List, length}
use Rattle.std.specs.List.{All}
use Rattle.word_layout.specs.Sizes.{Sizes}
use Rattle.mtrace_reader.specs.declared.steps.Script.{Script}
use Rattle.mtrace_reader.specs.Script.{IsWellFormed}
use Rattle.trace_player.specs.declared.tally.Tally.{Tally}
use Rattle.pass_players.specs.declared.preparing.Prepared.{Prepared}
use Rattle.pass_players.specs.Prepared.{IsFresh, IsPrepared, pool_in}
use Rattle.pool_player.specs.declared.player.TracePlayer.{TracePlayer}
use Rattle.pool_player.specs.Player.{HasSlots, Suits, most_calls_of}

-- the shape of the pool that they play over
abbrev pub sizes_in : {G : Type 0} → Prepared TracePlayer Tally G → Sizes
sizes_in prepared = (pool_in prepared).sizes

-- the pool was just opened; there is a well-formed script for each of its processes, which may play it and is ready for it; and there is
-- room for so many gates
pub record IsReady {G : Type 0} (scripts : List Script) (gates : ℕ) (prepared : Prepared TracePlayer Tally G) : Type 0 where
  pub players : IsPrepared Suits most_calls_of HasSlots scripts gates prepared
  pub fresh : IsFresh (sizes_in prepared) prepared
  pub one_each : length scripts ≡ (sizes_in prepared).processes
  pub formed : All IsWellFormed scripts
