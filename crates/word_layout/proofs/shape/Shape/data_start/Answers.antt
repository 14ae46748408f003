use Rattle.std.proofs.Common.{◌<◌, ◌^◌, subst}
use Rattle.word_layout.proofs.Starts.{data_start_lt}
use Rattle.word_layout.proofs.shape.Shape.data_start.Goals as goal

pub returns-clause-small : goal.returns-clause-small
returns-clause-small c = subst (λ n. n < 2 ^ 23) c.self.invariant.first_data (data_start_lt _ c.self.invariant.is_shape)
