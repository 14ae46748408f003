use Rattle.std.proofs.Common.{subst, sym, arith}
use Rattle.pool_io.specs.Counts.{NoneFrom}
use Rattle.pool_io.proofs.Counting.{NoneFrom-one_more}
use Rattle.pool_io.proofs.counts.count_call.Goals as goal

pub returns-clause-none : goal.returns-clause-none
returns-clause-none c none =
    subst (NoneFrom c.args.failing.now) (sym c.raise.ensures.raised)
    (NoneFrom-one_more c.args.failing.now c.args.calls.now (omega arith) none)
