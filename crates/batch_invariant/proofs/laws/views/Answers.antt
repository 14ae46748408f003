use Rattle.std.proofs.Common.{refl}
use Rattle.batch_invariant.proofs.Steps.{begun_keeps, stage_keeps}
use Rattle.batch_invariant.proofs.laws.views.Goals as goal

pub returns-clause-begun : goal.returns-clause-begun
returns-clause-begun c s i wish v rest may = begun_keeps s i wish v rest may

pub returns-clause-met : goal.returns-clause-met
returns-clause-met c sizes s i word v step matches = stage_keeps sizes s i v word v.transfer.next refl step matches
