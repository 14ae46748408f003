use Rattle.std.proofs.Common.{ap, ◌∙◌}
use Rattle.pool_table.specs.Views.{SeatView}
use Rattle.pool_table.proofs.Joins.{some_word, joins, look_keeps, joined}
use Rattle.pool_table.proofs.Settled.{settles}
use Rattle.pool_table.proofs.seats.join_seats.Goals as goal

pub join-requires-clause-word : goal.join-requires-clause-word
join-requires-clause-word g c = some_word _ _ c.requires.words

pub join-requires-clause-join : goal.join-requires-clause-join
join-requires-clause-join g c = joins _ _ _ _ c.requires.can

pub join-requires-clause-rule : goal.join-requires-clause-rule
join-requires-clause-rule g c = look_keeps _ _ _

pub returns-clause-joined : goal.returns-clause-joined
returns-clause-joined g c = joined _ _ _ _ _ c.requires.can c.join.ensures.step.1

pub returns-clause-settled : goal.returns-clause-settled
returns-clause-settled g c =
    let after = joined _ _ _ _ _ c.requires.can c.join.ensures.step.1 in
    settles _ after.among (ap (λ (v : SeatView). v.of_process) after.view ∙ c.requires.can.of_process)
