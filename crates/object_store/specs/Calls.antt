-- What the calls of a store do to a pass.
use Rattle.std.specs.Prelude.{◌≡◌, ◌≢◌, ℕ, ◌+◌, ◌≤◌, List, ◌∷◌, slice_index, Contains}
use Rattle.std.proofs.Common.{zero, suc}
use Rattle.pool_table.specs.Minds.{KnownWord, known_in}
use Rattle.block_pool.specs.Calls.{Allocated}
use Rattle.block_pool.specs.Passing.{Passed}
use Rattle.block_pool.specs.declared.pool.Answer.{Answer}
use Rattle.block_pool.specs.declared.pool.Answer.TheVariants.{Got, Dry}
use Rattle.object_store.specs.declared.object.Put.{Put}
use Rattle.object_store.specs.declared.object.Put.TheVariants.{Stored, Full}
use Rattle.object_store.specs.Objects.{HoldsWords}

-- what is known once the first words of a block, so many, were written in their order
abbrev pub written : ℕ → List ℕ → ℕ → List KnownWord → List KnownWord
written block words zero known = known
written block words (suc count) known =
    record { block = block; index = count; value = slice_index words count } ∷ written block words count known

-- every other block that the pass held it still holds, and knows its words as before
pub record KeepsOthers (block : ℕ) (old new : Passed) : Type 0 where
  pub held : (other : ℕ) → other ≢ block → Contains old.held other → Contains new.held other
  pub known : (other : ℕ) → other ≢ block → (index : ℕ) → known_in new.known other index ≡ known_in old.known other index

-- the steps of a call are within these bounds; the counter and the pass count them alike
pub record CountedWithin (low high before after : ℕ) (old new : Passed) : Type 0 where
  pub made : ℕ
  pub least : low ≤ made
  pub most : made ≤ high
  pub steps : after ≡ before + made
  pub moves : new.moves ≡ old.moves + made

-- how the allocate of a put was answered
abbrev pub answer_of : {R : Type 0} → Put R → Answer
answer_of (Stored object) = Got object.block
answer_of (Full value) = Dry

-- a put began with an allocate that was answered so; after it only the pass's known words and its moves changed
pub record AllocatedFirst (answer : Answer) (old new : Passed) : Type 0 where
  pub between : Passed
  pub allocated : Allocated answer old between
  pub after : new ≡ record between { known = new.known; moves = new.moves }
