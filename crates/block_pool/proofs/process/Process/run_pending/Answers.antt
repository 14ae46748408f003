use Rattle.std.proofs.Common.{rules}
use Rattle.block_pool.proofs.Moving.{plan_rests}
use Rattle.block_pool.proofs.process.Process.run_pending.Goals as goal

pub returns-then-eq-clause-plan : goal.returns-then-eq-clause-plan
returns-then-eq-clause-plan g c = plan_rests _ _ (search rules)
