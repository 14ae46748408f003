-- What a pool promises, in plain sentences over the history that is left when it is closed. Place y of the history is after its first y
-- entries. There are p processes and batches of l blocks.
use Rattle.std.specs.Prelude.{◌≡◌, ℕ, ◌+◌, ◌*◌, ◌<◌, ◌≤◌, ◌==◌, ◌↔◌, Some, List, length, take, drop, slice_get, count_by, sum_by, Contains}
use Rattle.std.specs.List.{All}
use Rattle.word_layout.specs.Sizes.{blocks}
use Rattle.pool_model.specs.declared.entry.Entry.TheVariants.{Got, Back, Dry}
use Rattle.pool_model.specs.History.{own, held, grip}
use Rattle.transfer_schedule.specs.Numbers.{withheld}
use Rattle.block_pool.specs.Passing.{Pooled, Passed}
use Rattle.block_pool.specs.Standing.{StandsWell}
use Rattle.block_pool.specs.Calls.{Counted}
use Rattle.block_pool.specs.Closing.{AreAllPasses, Settlement}

-- process i of the pool holds the block at a place: it got it, and didn't give it back
pub record HasBlock (settled : Settlement) (place i block : ℕ) : Type 0 where
  pub process : i < settled.sizes.processes
  pub holds : Contains (grip (own (take place settled.history) i)) block

-- at every place each held block is one of the pool, is held once, and by one process
pub record HeldOnce (settled : Settlement) : Type 0 where
  pub of_pool : (place block : ℕ) → Contains (held (take place settled.history)) block → block < blocks settled.sizes
  pub once : (place block : ℕ) → count_by (λ other. other == block) (held (take place settled.history)) ≤ 1
  pub holder : (place block : ℕ) → Contains (held (take place settled.history)) block ↔ ((i : ℕ) × HasBlock settled place i block)
  pub one_holder : (place block i j : ℕ) → HasBlock settled place i block → HasBlock settled place j block → i ≡ j

-- a block that was got was held by nobody right before, and one that was given back was held by its process
pub record AnsweredRight (settled : Settlement) : Type 0 where
  pub got : (x by block : ℕ) → slice_get settled.history x ≡ Some (Got by block) → ¬ Contains (held (take x settled.history)) block
  pub back : (x by block : ℕ) → slice_get settled.history x ≡ Some (Back by block) → HasBlock settled x by block

-- at the place at most 5pl blocks weren't held
abbrev pub FewUnheld : Settlement → ℕ → Type 0
FewUnheld settled place =
    blocks settled.sizes ≤ length (held (take place settled.history)) + 5 * settled.sizes.processes * settled.sizes.length

-- why a call of this process was refused at place x: within its last 2l calls, that one included, there was a place with at most 5pl blocks
-- that weren't held; and it held at least 2l blocks itself
pub record WasRefused (settled : Settlement) (x by : ℕ) : Type 0 where
  pub place : ℕ
  pub before : place ≤ x
  pub recent : length (own (drop place (take x settled.history)) by) + 1 ≤ 2 * settled.sizes.length
  pub few : FewUnheld settled place
  pub many : 2 * settled.sizes.length ≤ length (grip (own (take x settled.history) by))

-- each refusal in a settled history has its cause
abbrev pub RefusalsHadCause : Settlement → Type 0
RefusalsHadCause settled = (x by : ℕ) → slice_get settled.history x ≡ Some (Dry by) → WasRefused settled x by

-- while more than 5pl blocks aren't held, wherever that is, none is refused
abbrev pub EnoughIsEnough : Settlement → Type 0
EnoughIsEnough settled = ((place : ℕ) → place ≤ length settled.history → ¬ FewUnheld settled place)
    → (x by : ℕ) → ¬ (slice_get settled.history x ≡ Some (Dry by))

-- a call that took the counter and its pass so far: by one step at least and by a quantum and one at most, by nine at the usual quantum of
-- eight; both by as many
pub record IsShort (quantum before after : ℕ) (old new : Passed) : Type 0 where
  pub some : before + 1 ≤ after
  pub few : after ≤ before + quantum + 1
  pub nine : quantum ≡ 8 → after ≤ before + 9
  pub alike : after + old.moves ≡ before + new.moves

-- each call that is counted so is short
abbrev pub CountedAreShort : Type 0
CountedAreShort = (quantum before after : ℕ) (old new : Passed) → Counted quantum before after old new
    → IsShort quantum before after old new

-- the blocks that the passes of a pool withhold together, in their private pools and in transit, are at most 5pl, wherever each stands
abbrev pub PassesWithholdFew : Type 0
PassesWithholdFew = (pool : Pooled) (passes : List Passed) → AreAllPasses pool passes → All StandsWell passes
    → sum_by (λ pass. withheld pass.plan) passes ≤ 5 * pool.sizes.processes * pool.sizes.length
