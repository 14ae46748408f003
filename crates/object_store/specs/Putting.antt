-- What a put leaves.
use Rattle.std.specs.Prelude.{◌≡◌, ℕ, ◌+◌, List, Contains}
use Rattle.block_pool.specs.Passing.{Passed}
use Rattle.object_store.specs.declared.object.Put.{Put}
use Rattle.object_store.specs.declared.object.Put.TheVariants.{Stored, Full}
use Rattle.object_store.specs.Objects.{HoldsWords, ObjectView}
use Rattle.object_store.specs.Calls.{KeepsOthers}

-- a value was stored: the object has it, in a block that the pass didn't hold, whose first words are the value's
pub record IsStored {R : Type 0} (count : ℕ) (words_of : R → List ℕ) (put : R) (old new : Passed) (object : ObjectView R) : Type 0 where
  pub value : object.value ≡ put
  pub fresh : ¬ Contains old.held object.block
  pub holds : HoldsWords count (words_of put) object.block new
  pub others : KeepsOthers object.block old new

-- a value was given back: the pass holds and knows what it did
pub record IsRefused {R : Type 0} (put : R) (old new : Passed) (given : R) : Type 0 where
  pub value : given ≡ put
  pub held : new.held ≡ old.held
  pub known : new.known ≡ old.known

-- what a put leaves, by its answer
abbrev pub IsPut : {R : Type 0} → ℕ → (R → List ℕ) → R → Passed → Passed → Put R → Type 0
IsPut count words_of value old new (Stored object) = IsStored count words_of value old new object
IsPut count words_of value old new (Full given) = IsRefused value old new given

-- how many steps a put makes at least: its own, and one for each word where it is stored
abbrev pub least_of_put : {R : Type 0} → ℕ → Put R → ℕ
least_of_put count (Stored object) = count + 1
least_of_put count (Full value) = 1
