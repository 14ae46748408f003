-- What a player of a trace's script leaves.
use Rattle.std.specs.Prelude.{◌≡◌, ℕ, None, length, replicate}
use Rattle.word_layout.specs.Sizes.{Sizes}
use Rattle.mtrace_reader.specs.declared.steps.Script.{Script}
use Rattle.trace_player.specs.declared.tally.Tally.{Tally}
use Rattle.mtrace_reader.specs.Script.{IsWellFormed}
use Rattle.trace_player.specs.Fit.{IsTallied}
use Rattle.pass_players.specs.Moments.{entries_of}
use Rattle.pass_players.specs.Playing.{Course}
use Rattle.pool_player.specs.declared.player.TracePlayer.{TracePlayer}
use Rattle.pool_player.specs.Calling.{AreShort}

-- the script is well formed: it needs nothing of the pool's sizes
abbrev pub Suits : Sizes → Script → Type 0
Suits sizes script = IsWellFormed script

-- each step of a script makes one call at most
abbrev pub most_calls_of : Script → ℕ
most_calls_of script = length script.steps

-- the player has an empty slot for each block that the script gets
abbrev pub HasSlots : Script → TracePlayer → Type 0
HasSlots script player = player.slots.items ≡ replicate script.news None

-- the entries of the course fit the script, with refusals that they determine; the tally is that of these; and each call was short, with
-- no step between them
pub record IsTraced (course : Course) (script : Script) (tally : Tally) : Type 0 where
  pub tallied : IsTallied course.process script (entries_of course.calls) tally
  pub short : AreShort course.quantum course.before course.calls course.after
