use Rattle.std.proofs.Common.{◌∙◌, sym, subst}
use Rattle.pool_table.specs.Steps.{Among}
use Rattle.pool_table.proofs.Joins.{some_word, splits, left_of_process, right_of_process, left_among, right_among}
use Rattle.pool_table.proofs.seats.next_seat.Goals as goal

pub split-requires-clause-word : goal.split-requires-clause-word
split-requires-clause-word g c = some_word _ _ c.requires.words

pub split-requires-clause-rule : goal.split-requires-clause-rule
split-requires-clause-rule g c = splits _ _ c.requires.can

pub returns-clause-left : goal.returns-clause-left
returns-clause-left g c = c.split.ensures.left ∙ left_of_process _ c.requires.can.of_process

pub returns-clause-right : goal.returns-clause-right
returns-clause-right g c = c.split.ensures.right ∙ right_of_process _ c.requires.can.of_process

pub returns-clause-left_among : goal.returns-clause-left_among
returns-clause-left_among g c =
    subst Among (sym (c.split.ensures.left ∙ left_of_process _ c.requires.can.of_process)) (left_among _ c.requires.can)

pub returns-clause-right_among : goal.returns-clause-right_among
returns-clause-right_among g c =
    subst Among (sym (c.split.ensures.right ∙ right_of_process _ c.requires.can.of_process)) (right_among _ c.requires.can)
