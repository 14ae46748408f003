-- the longest of what the processes have seen
use Rattle.std.specs.Prelude.{ℕ, zero, suc, nat_lt, if◌then◌else◌, List, [], length}
use Rattle.pool_model.specs.declared.entry.Entry.{Entry}

-- the longest list of the first so many processes
unfoldable pub longest : ℕ → (ℕ → List Entry) → List Entry
longest zero seen = []
longest (suc process) seen = if nat_lt (length (longest process seen)) (length (seen process)) then seen process else longest process seen
