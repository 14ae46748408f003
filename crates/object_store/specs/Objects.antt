-- Objects, and what the pass that holds one knows of its words.
use Rattle.std.specs.Prelude.{◌≡◌, ℕ, ◌<◌, ◌≤◌, Some, List, length, slice_index, Contains}
use Rattle.pool_table.specs.Minds.{KnownWord, known_in}
use Rattle.block_pool.specs.Passing.{Passed}

-- an object: its block, and the value that was put or set last
pub record ObjectView (R : Type 0) : Type 0 where
  pub block : ℕ
  pub value : R

-- the first words of a block, so many, are known as these
abbrev pub KnowsWords : List KnownWord → ℕ → ℕ → List ℕ → Type 0
KnowsWords known block count words = (index : ℕ) → index < count → known_in known block index ≡ Some (slice_index words index)

-- a pass holds a block, and knows its first words as these
pub record HoldsWords (count : ℕ) (words : List ℕ) (block : ℕ) (pass : Passed) : Type 0 where
  pub held : Contains pass.held block
  pub known : KnowsWords pass.known block count words

-- eight words, of which those from a number on are 0
pub record IsPadded (count : ℕ) (words : List ℕ) : Type 0 where
  pub eight : length words ≡ 8
  pub rest : (place : ℕ) → count ≤ place → slice_index words place ≡ 0
