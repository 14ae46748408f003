-- what a process knows of the slots in which it keeps its blocks
use Rattle.std.specs.Prelude.{◌≡◌, ℕ, Option, Some, List, slice_get, Contains}

-- the slots have blocks that are held, no two the same
pub record SlotsFit (held : List ℕ) (slots : List (Option ℕ)) : Type 0 where
  pub filled : (place block : ℕ) → slice_get slots place ≡ Some (Some block) → Contains held block
  pub apart : (place other block : ℕ) → slice_get slots place ≡ Some (Some block) → slice_get slots other ≡ Some (Some block)
      → place ≡ other
