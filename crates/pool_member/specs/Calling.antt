-- What the calls of a member answer, and what they do to its pass.
use Rattle.std.specs.Prelude.{◌≡◌, ℕ, ◌+◌, ◌*◌, ◌<◌, ◌≤◌, Some, ◌∷◌, Contains}
use Rattle.word_layout.specs.Sizes.{limits_of, transfer_bound}
use Rattle.word_layout.specs.Packing.{most_age}
use Rattle.pool_model.specs.declared.entry.Entry.{Entry}
use Rattle.pool_model.specs.declared.entry.Entry.TheVariants as entry
use Rattle.pool_model.specs.Legal.{IsLegal}
use Rattle.transfer_schedule.specs.Numbers.{after_gave_one}
use Rattle.transfer_schedule.specs.declared.pending.Pending.TheVariants.{Idle}
use Rattle.pool_table.specs.Minds.{known_in}
use Rattle.pool_table.specs.Turns.{forget}
use Rattle.block_pool.specs.Calls.{SamePass, Entered, WasFree, Allocated, PlanMoved}
use Rattle.block_pool.specs.Passing.{HasAge, Passed}
use Rattle.block_pool.specs.Searching.{Searched, WasRefusedNow}
use Rattle.block_pool.specs.declared.pool.Answer.{Answer}
use Rattle.block_pool.specs.declared.pool.Answer.TheVariants.{Got, Dry}
use Rattle.pool_member.specs.declared.member.Getting.{Getting}
use Rattle.pool_member.specs.declared.member.Getting.TheVariants as getting
use Rattle.pool_member.specs.declared.member.Freeing.{Freeing}
use Rattle.pool_member.specs.declared.member.Freeing.TheVariants as freeing
use Rattle.pool_member.specs.declared.member.WordFault.{WordFault}
use Rattle.pool_member.specs.declared.member.WordFault.TheVariants as fault

-- a transfer is due, and the pass has begun as many as it may
abbrev pub IsSpent : Passed → Type 0
IsSpent pass = ¬ HasAge pass

-- the pool made one call of the pass, with this entry, and at most so many steps besides its own
pub record Called (most : ℕ) (entry : Entry) (old new : Passed) : Type 0 where
  pub pass : SamePass old new
  pub entered : Entered entry old new
  pub legal : IsLegal (limits_of old.sizes) new.seen
  pub age : new.age ≤ old.age + 1
  pub moved : old.moves + 1 ≤ new.moves
  pub few : new.moves ≤ old.moves + most + 1

-- the pass got a block that was free, and holds it besides the others
pub record Gets (most block : ℕ) (old new : Passed) : Type 0 where
  pub called : Called most (entry.Got old.number block) old new
  pub free : WasFree block old new
  pub held : new.held ≡ block ∷ old.held
  pub known : new.known ≡ old.known

-- the pass was refused a block, and holds what it held
pub record IsRefused (most : ℕ) (old new : Passed) : Type 0 where
  pub called : Called most (entry.Dry old.number) old new
  pub held : new.held ≡ old.held
  pub known : new.known ≡ old.known

-- the pass got a block or was refused one
abbrev pub AnswersOne : ℕ → Answer → Passed → Passed → Type 0
AnswersOne most (Got block) old new = Gets most block old new
AnswersOne most Dry old new = IsRefused most old new

-- an allocate of a pass that isn't spent: within a quantum, and refused where its own pool had no block
pub record AnswersYoung (answer : Answer) (old new : Passed) : Type 0 where
  pub answered : AnswersOne old.sizes.quantum answer old new
  pub plan : Allocated answer old new

-- the answer of a call that was made
abbrev pub getting_of : Answer → Getting
getting_of (Got block) = getting.Got block
getting_of Dry = getting.Dry

-- an allocate: no call is made where the pass is spent, and there alone
abbrev pub AnswersAllocate : Getting → Passed → Passed → Type 0
AnswersAllocate (getting.Got block) old new = HasAge old × AnswersYoung (Got block) old new
AnswersAllocate getting.Dry old new = HasAge old × AnswersYoung Dry old new
AnswersAllocate getting.Spent old new = IsSpent old × (new ≡ old)

-- a search of a pass that may begin a transfer: within two transfers, of which none is left pending, and refused where its own pool had no
-- block then; a refusal's moment lies within the call
pub record AnswersSought (answer : Answer) (old new : Passed) : Type 0 where
  pub answered : AnswersOne (2 * transfer_bound old.sizes) answer old new
  pub plan : Searched answer old new
  pub rests : new.plan.pending ≡ Idle
  pub moment : answer ≡ Dry → WasRefusedNow old new

-- a search: no call is made where the pass has begun as many transfers as it may, and there alone
abbrev pub AnswersSearch : Getting → Passed → Passed → Type 0
AnswersSearch (getting.Got block) old new = (old.age < most_age old.sizes) × AnswersSought (Got block) old new
AnswersSearch getting.Dry old new = (old.age < most_age old.sizes) × AnswersSought Dry old new
AnswersSearch getting.Spent old new = (most_age old.sizes ≤ old.age) × (new ≡ old)

-- the pass held the block, and holds it no more; the pool has it back
pub record GivesBack (block : ℕ) (old new : Passed) : Type 0 where
  pub had : Contains old.held block
  pub called : Called old.sizes.quantum (entry.Back old.number block) old new
  pub known : new.known ≡ forget block old.known
  pub plan : PlanMoved after_gave_one old new

-- a free: of a held block it is refused where the pass is spent alone
abbrev pub AnswersFree : ℕ → Freeing → Passed → Passed → Type 0
AnswersFree block freeing.Freed old new = HasAge old × GivesBack block old new
AnswersFree block freeing.NotHeld old new = (¬ Contains old.held block) × (new ≡ old)
AnswersFree block freeing.Spent old new = Contains old.held block × IsSpent old × (new ≡ old)

-- the pass holds the block, and it has such a data word
abbrev pub HasWord : Passed → ℕ → ℕ → Type 0
HasWord pass block index = Contains pass.held block × (index < pass.sizes.words)

-- why the pass has no such data word: it doesn't hold the block, or the block it holds has no word of this index
abbrev pub LacksWord : WordFault → Passed → ℕ → ℕ → Type 0
LacksWord fault.NotHeld pass block index = ¬ Contains pass.held block
LacksWord fault.NoWord pass block index = Contains pass.held block × (pass.sizes.words ≤ index)

-- a read of that word: what the pass knows of it is what is read
pub record ReadsWord (block index value : ℕ) (old new : Passed) : Type 0 where
  pub has : HasWord old block index
  pub read : (known : ℕ) → known_in old.known block index ≡ Some known → value ≡ known
  pub pass : new ≡ record old { moves = old.moves + 1 }

-- a write of that word: the pass knows it then
pub record WritesWord (block index value : ℕ) (old new : Passed) : Type 0 where
  pub has : HasWord old block index
  pub pass : new ≡ record old {
    moves = old.moves + 1;
    known = record { block = block; index = index; value = value } ∷ old.known;
  }

-- no call was made, for this fault
abbrev pub IsFaulty : ℕ → ℕ → Passed → Passed → WordFault → Type 0
IsFaulty block index old new fault = LacksWord fault old block index × (new ≡ old)
