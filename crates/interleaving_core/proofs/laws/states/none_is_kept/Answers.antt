use Rattle.interleaving_core.proofs.StateLaws.{none_where_none_is_kept}
use Rattle.interleaving_core.proofs.laws.states.none_is_kept.Goals as goal

pub returns : goal.returns
returns c = none_where_none_is_kept
