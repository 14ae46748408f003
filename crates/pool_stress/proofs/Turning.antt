-- a pass that makes calls, and its slots
use Rattle.std.proofs.Common.{◌≡◌, ℕ, Option, List, length, refl, ◌∙◌}
use Rattle.block_pool.specs.Passing.{Pooled, Passed, IsOf}
use Rattle.block_pool.specs.Calls.{SamePass}
use Rattle.pool_stress.specs.Slots.{SlotsFit}

-- it is the same pass still, of this pool
pub record HasGone (pool : Pooled) (start now : Passed) : Type 0 where
  pub same : SamePass start now
  pub is_of : IsOf pool now

-- before its first call
pub none_gone : (pool : Pooled) (pass : Passed) → IsOf pool pass → HasGone pool pass pass
none_gone pool pass is_of = record { same = record { table = refl; sizes = refl; number = refl }; is_of = is_of }

-- after one call more
pub one_gone : (pool : Pooled) (start now after : Passed) → HasGone pool start now → SamePass now after → HasGone pool start after
one_gone pool start now after h same = record {
  same = record { table = same.table ∙ h.same.table; sizes = same.sizes ∙ h.same.sizes; number = same.number ∙ h.same.number };
  is_of = record { table = same.table ∙ h.is_of.table; sizes = same.sizes ∙ h.is_of.sizes };
}

-- and it holds the blocks of its slots
pub record HasTurned (pool : Pooled) (start now : Passed) (count : ℕ) (slots : List (Option ℕ)) : Type 0 where
  pub gone : HasGone pool start now
  pub many : length slots ≡ count
  pub fit : SlotsFit now.held slots
