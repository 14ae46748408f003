use Rattle.call_invariant.proofs.Standing.{shape_fits}
use Rattle.call_invariant.proofs.laws.shapes.Goals as goal

pub returns : goal.returns
returns c sizes shape = shape_fits sizes shape
