-- What calls do to a pass, whatever they are for.
use Rattle.std.specs.Prelude.{◌≡◌, ◌+◌, ◌≤◌, List, ◌++◌, length, take}
use Rattle.pool_model.specs.declared.entry.Entry.{Entry}
use Rattle.block_pool.specs.Calls.{Entered, SamePass}
use Rattle.block_pool.specs.Passing.{Passed}

-- one call made this entry alone, and began a transfer at most
pub record Calls (entry : Entry) (old new : Passed) : Type 0 where
  pub same : SamePass old new
  pub entered : Entered entry old new
  pub age : new.age ≤ old.age + 1

-- the pass's own list grew by these entries, one a call; what it has seen begins with what it had; and each call began a transfer at most
pub record Grows (entries : List Entry) (old new : Passed) : Type 0 where
  pub same : SamePass old new
  pub own : new.own ≡ old.own ++ entries
  pub seen : take (length old.seen) new.seen ≡ old.seen
  pub age : new.age ≤ old.age + length entries
