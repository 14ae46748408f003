-- A script that the process of a pass plays.
use Rattle.std.specs.Prelude.{◌≡◌, ℕ, ◌+◌, ◌^◌, ◌<◌, ◌≤◌, ◌⊎◌, ◌↔◌, Bool, Option, Some, List, [], ◌∷◌, ◌++◌, length, Contains}
use Rattle.word_layout.specs.Packing.{most_age}
use Rattle.mtrace_reader.specs.declared.steps.Step.{Step}
use Rattle.mtrace_reader.specs.declared.steps.Script.{Script}
use Rattle.mtrace_reader.specs.Script.{placed_slots}
use Rattle.trace_player.specs.declared.tally.Tally.{Tally}
use Rattle.trace_player.specs.Fit.{IsTallied}
use Rattle.trace_player.specs.Playing.{block_in, MayCome, PlaysSteps}
use Rattle.block_pool.specs.Passing.{IsOf, Passed, Pooled}
use Rattle.pass_players.specs.Moments.{MadeCall, Moment, entries_of}
use Rattle.pass_players.specs.Playing.{HasMade}
use Rattle.pool_player.specs.Calling.{AreShort}

-- some slot has the block
abbrev pub InSlots : List (Option ℕ) → ℕ → Type 0
InSlots slots block = (slot : ℕ) × (block_in slots slot ≡ Some block)

-- the blocks in slots are those that are held besides those that were held before
pub record LeavesInSlots (before : List ℕ) (slots : List (Option ℕ)) (now : List ℕ) : Type 0 where
  pub held : (block : ℕ) → Contains now block ↔ (Contains before block ⊎ InSlots slots block)
  pub new : (block : ℕ) → InSlots slots block → ¬ Contains before block

-- the pass played the script: it made calls whose entries fit the script, with refusals that they determine, each short and with no step
-- between them; the gate was told of the moment before each, and of no other; the tally is that of these; and the slots have the blocks
-- that are left, no two the same
pub record IsPlayedBy (script : Script) (told_before told_now : List Moment) (old new : Passed) (slots : List (Option ℕ)) (tally : Tally)
    : Type 0 where
  pub calls : List MadeCall
  pub made : HasMade calls told_before told_now old new
  pub short : AreShort old.sizes.quantum old.moves calls new.moves
  pub tallied : IsTallied old.number script (entries_of calls) tally
  pub left : LeavesInSlots old.held slots new.held
  pub apart : (a b block : ℕ) → block_in slots a ≡ Some block → block_in slots b ≡ Some block → a ≡ b

-- these steps of the script were played since the pass was so and the gate was told this
pub record PlaysSoFar (script : Script) (done : List Step) (first now : List Moment) (start pass : Passed) (slots : List (Option ℕ))
    (tally : Tally) : Type 0 where
  pub refused : List Bool
  pub blocks : List ℕ
  pub calls : List MadeCall
  pub plays : PlaysSteps start.number script refused blocks done (entries_of calls) (Contains pass.held) slots tally
  pub made : HasMade calls first now start pass
  pub short : AreShort start.sizes.quantum start.moves calls pass.moves
  pub left : LeavesInSlots start.held slots pass.held

-- some steps of a script were played, and this one may come next
pub record IsNext (step : Step) (pool : Pooled) (pass : Passed) (told : List Moment) (slots : List (Option ℕ)) (tally : Tally)
    : Type 0 where
  pub script : Script
  pub done : List Step
  pub first : List Moment
  pub start : Passed
  pub of_pool : IsOf pool pass
  pub young : start.age + length done < most_age pool.sizes
  pub short : length done < 2 ^ 63
  pub room : length (placed_slots (done ++ step ∷ [])) ≤ length slots
  pub may_come : MayCome done step
  pub played : PlaysSoFar script done first told start pass slots tally
