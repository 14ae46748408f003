use Rattle.stack_invariant.proofs.OtherWords.{other_words_keep}
use Rattle.stack_invariant.proofs.laws.other_words.Goals as goal

pub returns : goal.returns
returns c = other_words_keep
