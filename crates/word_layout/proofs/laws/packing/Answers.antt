use Rattle.word_layout.proofs.Packed.{tagged_lt, tag_of-tagged, value_of-tagged, announced_word_lt, announced_of-announced_word, reply_value_lt, reply_of-reply_value, is_odd_reply-reply_value}
use Rattle.word_layout.proofs.laws.packing.Goals as goal

pub returns-clause-tagged_fits : goal.returns-clause-tagged_fits
returns-clause-tagged_fits c = tagged_lt

pub returns-clause-tagged : goal.returns-clause-tagged
returns-clause-tagged c tag value h = (tag_of-tagged tag value h, value_of-tagged tag value h)

pub returns-clause-announced_fits : goal.returns-clause-announced_fits
returns-clause-announced_fits c = announced_word_lt

pub returns-clause-announced : goal.returns-clause-announced
returns-clause-announced c = announced_of-announced_word

pub returns-clause-reply_fits : goal.returns-clause-reply_fits
returns-clause-reply_fits c = reply_value_lt

pub returns-clause-reply : goal.returns-clause-reply
returns-clause-reply c odd reply h = (is_odd_reply-reply_value odd reply h, reply_of-reply_value odd reply h)
