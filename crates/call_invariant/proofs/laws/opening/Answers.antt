use Rattle.call_invariant.proofs.Alone.{opening_calls}
use Rattle.call_invariant.proofs.laws.opening.Goals as goal

pub returns : goal.returns
returns c sizes i = opening_calls sizes i
