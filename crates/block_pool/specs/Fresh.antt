-- passes that have begun nothing yet
use Rattle.std.specs.Prelude.{◌≡◌}
use Rattle.block_pool.specs.Passing.{Pooled, Passed, IsOf}

-- a pass of the pool that has begun no transfer yet
pub record IsFresh (pool : Pooled) (pass : Passed) : Type 0 where
  pub is_of : IsOf pool pass
  pub age : pass.age ≡ 0
