use Rattle.stack_invariant.proofs.Content.{words_show}
use Rattle.stack_invariant.proofs.laws.content.Goals as goal

pub returns : goal.returns
returns c = words_show
