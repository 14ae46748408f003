use Rattle.interleaving_core.proofs.RunTurns.{run_holds}
use Rattle.interleaving_core.proofs.laws.transfers.runs_keep_invariant.Goals as goal

pub returns : goal.returns
returns c = run_holds
