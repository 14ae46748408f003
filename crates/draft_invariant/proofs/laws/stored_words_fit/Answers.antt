use Rattle.draft_invariant.proofs.Gives.{stored_words_fit}
use Rattle.draft_invariant.proofs.laws.stored_words_fit.Goals as goal

pub returns : goal.returns
returns c = stored_words_fit
