use Rattle.word_layout.proofs.Placed.{word_at-set_word_same, word_at-set_word_other}
use Rattle.transfer_machine.specs.Words.{name_of, left_by, met_word}
use Rattle.transfer_invariant.proofs.laws.tables.Goals as goal

pub returns : goal.returns
returns c sizes table action whole range =
    let word = left_by action (met_word sizes table action) in
    record {
      here = word_at-set_word_same sizes table (name_of action) word whole range;
      elsewhere = λ name low ne. word_at-set_word_other sizes table (name_of action) name word range low ne;
    }
