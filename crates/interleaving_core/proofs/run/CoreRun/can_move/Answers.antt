use Rattle.std.proofs.Common.{refl, arith}
use Rattle.interleaving_core.proofs.Runs.{run_lengths, may_go_alone_here}
use Rattle.interleaving_core.proofs.run.CoreRun.can_move.Goals as goal

pub index-requires : goal.index-requires
index-requires c = omega (arith, c.self.inside.views.ok, (run_lengths _ _ _ refl c.self.invariant).views)

pub returns-then-by-processes : goal.returns-then-by-processes
returns-then-by-processes c =
    let test = c.if-by-processes.true in
    let value = c.processes.ensures.value in
    may_go_alone_here _ _ _ c.args.by c.args.wish _ _ c.self.view_is c.self.invariant (rw value at test) c.index.ensures
    c.may_go_alone.ensures
