use Rattle.std.proofs.Common.{rules}
use Rattle.block_pool.proofs.Standing.{quiet_so}
use Rattle.block_pool.proofs.pass.Pass.is_quiet.Goals as goal

pub returns-then-eq : goal.returns-then-eq
returns-then-eq c =
    rw (← c.self.view_is) (quiet_so _ c.self.inside.process c.spares.result c.self.invariant.between_calls (search rules) c.spares.ensures)
