use Rattle.process_sums.proofs.Sums.{total_moved, term_of_total}
use Rattle.process_sums.proofs.of_sums.Goals as goal

pub returns-clause-moved : goal.returns-clause-moved
returns-clause-moved c = total_moved

pub returns-clause-within : goal.returns-clause-within
returns-clause-within c = term_of_total
