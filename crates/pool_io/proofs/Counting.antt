-- Counts of calls of which some are named to fail.
use Rattle.std.proofs.Common.{ℕ, ◌^◌, ◌<◌, List, arith}
use Rattle.pool_io.specs.Counts.{one_more, NoneFrom}

-- where no call from one on is named, none is from the next one on
pub NoneFrom-one_more : (failing : List ℕ) (call : ℕ) → call < 2 ^ 64 → NoneFrom failing call → NoneFrom failing (one_more call)
NoneFrom-one_more failing call fits none later from = none later (omega arith)
