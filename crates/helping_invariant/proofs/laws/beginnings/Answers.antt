use Rattle.helping_invariant.proofs.Keeps.{beginnings_keep_helping}
use Rattle.helping_invariant.proofs.laws.beginnings.Goals as goal

pub returns : goal.returns
returns c = beginnings_keep_helping
