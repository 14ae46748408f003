-- What a member keeps.
use Rattle.std.specs.Prelude.{◌≡◌, ℕ, ◌↔◌, Contains}
use Rattle.word_layout.specs.Sizes.{blocks}
use Rattle.block_marks.specs.Marked.{Marked, Has}
use Rattle.block_pool.specs.Passing.{Pooled, Passed, IsOf}

-- the pass is of the pool, and marked is exactly what it holds
pub record FitsPool (pool : Pooled) (pass : Passed) (marks : Marked) : Type 0 where
  pub of_pool : IsOf pool pass
  pub bound : marks.bound ≡ blocks pool.sizes
  pub exact : (block : ℕ) → Has marks block ↔ Contains pass.held block
