use Rattle.word_layout.proofs.Placed.{word_at-set_word_same, word_at-set_word_other}
use Rattle.word_layout.proofs.laws.words.Goals as goal

pub returns-clause-here : goal.returns-clause-here
returns-clause-here c = word_at-set_word_same

pub returns-clause-elsewhere : goal.returns-clause-elsewhere
returns-clause-elsewhere c = word_at-set_word_other
