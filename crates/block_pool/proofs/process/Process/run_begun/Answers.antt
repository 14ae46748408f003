use Rattle.std.proofs.Common.{rules}
use Rattle.block_pool.proofs.Searching.{begun_ages, nothing_runs}
use Rattle.block_pool.proofs.process.Process.run_begun.Goals as goal

pub returns-then-eq-clause-plan : goal.returns-then-eq-clause-plan
returns-then-eq-clause-plan g c = nothing_runs _ (search rules)

pub returns-clause-age : goal.returns-clause-age
returns-clause-age g c = c.run_to_end.ensures.age _ (begun_ages _)
