-- How a run's work ended, and what its pool was closed with.
use Rattle.std.specs.Prelude.{Option, None, Result, Ok, Err}
use Rattle.block_pool.specs.Closing.{Settlement}
use Rattle.file_runs.specs.declared.ending.Ending.{Ending}
use Rattle.pool_cli.specs.declared.ending.Worked.{Worked}

-- the ending of work that played, or ended early
abbrev pub ending_of : Result Worked Ending → Ending
ending_of (Ok worked) = worked.ending
ending_of (Err ending) = ending

-- what its pool was closed with
abbrev pub settled_of : Result Worked Ending → Option Settlement
settled_of (Ok worked) = worked.settled
settled_of (Err ending) = None
