use Rattle.helping_invariant.proofs.OpenedHelping.{opening_meets_helping}
use Rattle.helping_invariant.proofs.laws.opening.Goals as goal

pub returns : goal.returns
returns c = opening_meets_helping
