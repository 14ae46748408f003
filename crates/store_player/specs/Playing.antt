-- A store script that the process of a pass plays.
use Rattle.std.specs.Prelude.{◌≡◌, ℕ, ◌+◌, ◌<◌, ◌≤◌, Bool, Option, Some, None, List, [], ◌∷◌, ◌++◌}
use Rattle.std.specs.Prelude.{option_map, length, slice_index, slice_index_or}
use Rattle.word_layout.specs.Packing.{most_age}
use Rattle.pool_model.specs.declared.entry.Entry.{Entry}
use Rattle.store_script.specs.declared.quad.Quad.{Quad}
use Rattle.store_script.specs.declared.command.Command.{Command}
use Rattle.store_script.specs.declared.command.StoreScript.{StoreScript}
use Rattle.store_script.specs.declared.answered.Answered.{Answered}
use Rattle.store_script.specs.Fit.{IsAnswered, calls_from}
use Rattle.store_script.specs.Replies.{Kept, Walk, begun, kept, walked}
use Rattle.store_script.specs.Script.{HasIndex, key_of, keys_of, place_of, slot_of}
use Rattle.block_pool.specs.Passing.{IsOf, Passed, Pooled}
use Rattle.object_store.specs.Objects.{HoldsWords, ObjectView}
use Rattle.pass_players.specs.Growing.{Calls}
use Rattle.pass_players.specs.Moments.{MadeCall, Moment, entries_of}
use Rattle.pass_players.specs.Playing.{HasMade}
use Rattle.store_player.specs.Steps.{TakesSteps}

-- the words of four numbers
abbrev pub quad_words : Quad → List ℕ
quad_words quad = quad.a ∷ quad.b ∷ quad.c ∷ quad.d ∷ 0 ∷ 0 ∷ 0 ∷ 0 ∷ []

-- what a slot has
abbrev pub object_in : List (Option (ObjectView Quad)) → ℕ → Option (ObjectView Quad)
object_in slots slot = slice_index_or slots slot None

-- one call made this entry alone, so many steps at least, and at most a quantum of others
pub record Does (entry : Entry) (least : ℕ) (old new : Passed) : Type 0 where
  pub made : Calls entry old new
  pub some : old.moves + least ≤ new.moves
  pub few : new.moves ≤ old.moves + old.sizes.quantum + least

-- the numbers that are kept are those that an object has; or there is neither
abbrev pub NumbersAre : Option Kept → Option (ObjectView Quad) → Type 0
NumbersAre before found = option_map (λ object. object.value) found ≡ option_map (λ before. before.value) before

-- each key has its slot: that has an object with the numbers that are kept for the key, or else nothing
abbrev pub HasPresent : List ℕ → Walk → List (Option (ObjectView Quad)) → Type 0
HasPresent keys walk slots = (key slot : ℕ) → place_of key keys ≡ Some slot → NumbersAre (kept walk key) (object_in slots slot)

-- the pass holds the block of each object, and knows its words as those of the numbers
abbrev pub AreHeld : List (Option (ObjectView Quad)) → Passed → Type 0
AreHeld slots pass = (slot : ℕ) (object : ObjectView Quad) → object_in slots slot ≡ Some object
    → HoldsWords 4 (quad_words object.value) object.block pass

-- no two slots have one block
abbrev pub AreApart : List (Option (ObjectView Quad)) → Type 0
AreApart slots = (a b : ℕ) (one other : ObjectView Quad) → object_in slots a ≡ Some one → object_in slots b ≡ Some other
    → one.block ≡ other.block → a ≡ b

-- the pass played the script: it made calls that fit the script, with refusals that they determine, and its gate was told of the moment
-- before each of them and of no other; the answers are those to the script with these; the slots have the objects of the present keys; and
-- each command took its steps
pub record IsStorePlayed (script : StoreScript) (told_before told_now : List Moment) (old new : Passed)
    (slots : List (Option (ObjectView Quad))) (answers : List Answered) : Type 0 where
  pub calls : List MadeCall
  pub made : HasMade calls told_before told_now old new
  pub answered : IsAnswered old.number script (entries_of calls) answers
  pub present : HasPresent (keys_of script.commands) (walked answered.refused script.commands) slots
  pub held : AreHeld slots new
  pub apart : AreApart slots
  pub took : TakesSteps old.sizes.quantum old.moves script.commands answers calls new.moves

-- the block of a put is the one that its object has
abbrev pub BlockIs : List ℕ → Option Kept → Option (ObjectView Quad) → Type 0
BlockIs blocks None found = Unit {0}
BlockIs blocks (Some before) None = Unit {0}
BlockIs blocks (Some before) (Some object) = (others : List ℕ) → slice_index (blocks ++ others) before.put ≡ object.block

-- these commands were played since the pass was so and its gate was told of so much; whatever refusals and blocks come later
pub record PlaysSoFar (keys : List ℕ) (done : List Command) (start pass : Passed) (slots : List (Option (ObjectView Quad)))
    (answers : List Answered) (first told : List Moment) : Type 0 where
  pub refused : List Bool
  pub blocks : List ℕ
  pub calls : List MadeCall
  pub walk : Walk
  pub refused_each : length refused ≡ walk.puts
  pub blocks_each : length blocks ≡ walk.puts
  pub walks : (more : List Bool) → walked (refused ++ more) done ≡ walk
  pub entries : (more : List Bool) (others : List ℕ)
      → calls_from start.number (refused ++ more) (blocks ++ others) begun done ≡ entries_of calls
  pub answered : answers ≡ walk.answers
  pub present : HasPresent keys walk slots
  pub held : AreHeld slots pass
  pub block_of : (key slot : ℕ) → place_of key keys ≡ Some slot → BlockIs blocks (kept walk key) (object_in slots slot)
  pub apart : AreApart slots
  pub made : HasMade calls first told start pass
  pub took : TakesSteps start.sizes.quantum start.moves done answers calls pass.moves
  pub few : length (entries_of calls) ≤ length done

-- some commands were played, and this one may come next
pub record IsNext (command : Command) (pool : Pooled) (pass : Passed) (slots : List (Option (ObjectView Quad))) : Type 0 where
  pub keys : List ℕ
  pub done : List Command
  pub start : Passed
  pub answers : List Answered
  pub first : List Moment
  pub told : List Moment
  pub of_pool : IsOf pool pass
  pub words : 4 ≤ pool.sizes.words
  pub young : start.age + length done < most_age pool.sizes
  pub placed : place_of (key_of command) keys ≡ Some (slot_of command)
  pub within : slot_of command < length slots
  pub index : HasIndex command
  pub played : PlaysSoFar keys done start pass slots answers first told

-- however the playing came here, where the gate had been told of so much, it goes on with this command, which is answered so
abbrev pub GoesOn : Command → Answered → Passed → Passed → List (Option (ObjectView Quad)) → List (Option (ObjectView Quad))
    → List Moment → List Moment → Type 0
GoesOn command answer old new slots later told now =
    (keys : List ℕ) (done : List Command) (start : Passed) (answers : List Answered) (first : List Moment)
    → place_of (key_of command) keys ≡ Some (slot_of command) → PlaysSoFar keys done start old slots answers first told
    → PlaysSoFar keys (done ++ command ∷ []) start new later (answers ++ answer ∷ []) first now

-- so it does with a command that tells nothing, whatever the gate had been told
abbrev pub GoesOnUntold : Command → Answered → Passed → Passed → List (Option (ObjectView Quad)) → List (Option (ObjectView Quad)) → Type 0
GoesOnUntold command answer old new slots later = (told : List Moment) → GoesOn command answer old new slots later told told
