-- What a player of a store script leaves.
use Rattle.std.specs.Prelude.{◌≡◌, ℕ, ◌≤◌, Option, None, List, length, replicate}
use Rattle.word_layout.specs.Sizes.{Sizes}
use Rattle.store_script.specs.declared.command.StoreScript.{StoreScript}
use Rattle.store_script.specs.declared.answered.Answered.{Answered}
use Rattle.store_script.specs.declared.quad.Quad.{Quad}
use Rattle.store_script.specs.Script.{IsWellFormed}
use Rattle.store_script.specs.Fit.{IsAnswered}
use Rattle.object_store.specs.Objects.{ObjectView}
use Rattle.pass_players.specs.Moments.{entries_of}
use Rattle.pass_players.specs.Playing.{Course}
use Rattle.store_player.specs.declared.player.StorePlayer.{StorePlayer}
use Rattle.store_player.specs.Steps.{TakesSteps}

-- the script is well formed, and the blocks of the pool have room for a record
pub record Suits (sizes : Sizes) (script : StoreScript) : Type 0 where
  pub formed : IsWellFormed script
  pub words : 4 ≤ sizes.words

-- each command of a script makes one call at most
abbrev pub most_calls_of : StoreScript → ℕ
most_calls_of script = length script.commands

-- the slots are empty, one for each key of the script, and there is a place for each answer
pub record HasPlaces (script : StoreScript) (slots : List (Option (ObjectView Quad))) (answers : List Answered) : Type 0 where
  pub empty : slots ≡ replicate script.slots None
  pub places : length answers ≡ length script.commands

-- so they are of a player, which has played nothing
abbrev pub HasSlots : StoreScript → StorePlayer → Type 0
HasSlots script player = HasPlaces script player.slots.items player.answers.items

-- the calls of the course fit the script, with refusals that they determine; the answers are those with these; and each command took its
-- steps
pub record IsServed (course : Course) (script : StoreScript) (answers : List Answered) : Type 0 where
  pub answered : IsAnswered course.process script (entries_of course.calls) answers
  pub took : TakesSteps course.quantum course.before script.commands answers course.calls course.after
