use Rattle.helping_invariant.proofs.Consequences.{installs_present}
use Rattle.helping_invariant.proofs.laws.installs.Goals as goal

pub returns : goal.returns
returns c = installs_present
