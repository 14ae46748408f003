-- How many steps the calls of a pass made.
use Rattle.std.specs.Prelude.{◌≡◌, ℕ, ◌+◌, ◌*◌, ◌≤◌, List, [], ◌∷◌, ◌++◌, length}
use Rattle.pool_model.specs.declared.entry.Entry.{Entry}
use Rattle.block_pool.specs.Passing.{Passed}
use Rattle.pass_players.specs.Growing.{Calls}
use Rattle.pass_players.specs.Moments.{MadeCall, Moment, moment_of}

-- the call began where its process had made so many steps, and made one step at least, and a quantum and one at most
pub record IsShort (quantum before : ℕ) (call : MadeCall) : Type 0 where
  pub begins : call.before ≡ before
  pub some : before + 1 ≤ call.after
  pub few : call.after ≤ before + quantum + 1

-- each of these calls was short, and their process made no step between them: it had made so many before the first, and so many after the
-- last
abbrev pub AreShort : ℕ → ℕ → List MadeCall → ℕ → Type 0
AreShort quantum before [] after = after ≡ before
AreShort quantum before (call ∷ calls) after = IsShort quantum before call × AreShort quantum call.after calls after

-- short calls make a step each at least, and a quantum and one each at most
abbrev pub ShortCallsMakeFew : Type 0
ShortCallsMakeFew = (quantum before after : ℕ) (calls : List MadeCall) → AreShort quantum before calls after
    → (before + length calls ≤ after) × (after ≤ before + length calls * (quantum + 1))

-- that of a pass which made this entry
abbrev pub call_of : Entry → Passed → Passed → MadeCall
call_of entry old new = record { entry = entry; before = old.moves; after = new.moves }

-- one call made this entry alone, and was short; the gate was told of the moment before it, and of no other
pub record ToldCall (entry : Entry) (told_before told_now : List Moment) (old new : Passed) : Type 0 where
  pub made : Calls entry old new
  pub short : IsShort old.sizes.quantum old.moves (call_of entry old new)
  pub told : told_now ≡ told_before ++ moment_of old ∷ []
