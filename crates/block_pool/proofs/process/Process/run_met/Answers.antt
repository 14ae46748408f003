use Rattle.std.proofs.Common.{rules, ◌≢◌}
use Rattle.transfer_schedule.specs.declared.pending.Pending.TheVariants.{Idle}
use Rattle.block_pool.proofs.Searching.{starts_seeking, met_ages, nothing_runs}
use Rattle.block_pool.proofs.process.Process.run_met.Goals as goal

pub returns-then-eq-clause-plan : goal.returns-then-eq-clause-plan
returns-then-eq-clause-plan g c = nothing_runs _ (search rules)

pub returns-clause-age : goal.returns-clause-age
returns-clause-age g c =
    let busy : c.args.self.now.pool.plan.pending ≢ Idle = search rules in
    c.run_to_end.ensures.age _ (met_ages _ c.args.self.now
    (starts_seeking _ c.args.self.now c.requires.ready.between c.requires.young busy))
