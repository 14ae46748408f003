-- What a plain pool's own fields meet between its calls.
use Rattle.std.specs.Prelude.{ℕ, ◌<◌, ◌≤◌, List, All, eqb}
use Rattle.std.specs.List.{IsDistinct}

-- what a plain pool keeps of its fields: at most all blocks were given, what came back was given, each once, and there is
-- room for all blocks
pub record IsKept (blocks given : ℕ) (returned : List ℕ) (capacity : ℕ) : Type 0 where
  pub within : given ≤ blocks
  pub below : All (λ block. block < given) returned
  pub once : IsDistinct eqb returned
  pub room : blocks ≤ capacity
