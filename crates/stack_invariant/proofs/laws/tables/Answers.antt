use Rattle.stack_invariant.proofs.Tables.{tables_show}
use Rattle.stack_invariant.proofs.laws.tables.Goals as goal

pub returns : goal.returns
returns c = tables_show
