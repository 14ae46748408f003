use Rattle.std.proofs.Common.{refl}
use Rattle.pool_invariant.proofs.Steps.{step_holds}
use Rattle.pool_invariant.proofs.laws.steps.Goals as goal

pub returns : goal.returns
returns c sizes i v word some h given = step_holds sizes i v word v.transfer.next refl some h given.few given.answers
