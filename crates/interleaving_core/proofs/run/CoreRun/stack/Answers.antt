use Rattle.interleaving_core.proofs.Opens.{content_said}
use Rattle.interleaving_core.proofs.Runs.{run_fits}
use Rattle.interleaving_core.proofs.run.CoreRun.stack.Goals as goal

pub stack_of-requires : goal.stack_of-requires
stack_of-requires c =
    let (past, history, run) = c.self.invariant in
    let fits = run_fits _ past history _ run in
    let view = c.deref.ensures in
    rw view.value (content_said _ _ _ history fits.whole fits.meets)
