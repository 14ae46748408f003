use Rattle.chain_invariant.proofs.OwnChains.{quiet_chains, leaving_chains, spare_chains, coming_chains, starting_chains}
use Rattle.chain_invariant.proofs.laws.own_steps.Goals as goal

pub returns-clause-quiet : goal.returns-clause-quiet
returns-clause-quiet c sizes words new s views after held i x li chains keeps moved stay =
    quiet_chains sizes words new s views after held i x li chains keeps moved stay

pub returns-clause-leaving : goal.returns-clause-leaving
returns-clause-leaving c sizes words new s views after held held_after i block x li chains leaves transfer moved stay gains =
    leaving_chains sizes words new s views after held held_after i block x li chains leaves transfer moved stay gains

pub returns-clause-spare : goal.returns-clause-spare
returns-clause-spare c sizes words new s views after held held_after i block x li chains opens transfer moved stay gains =
    spare_chains sizes words new s views after held held_after i block x li chains opens transfer moved stay gains

pub returns-clause-coming : goal.returns-clause-coming
returns-clause-coming c sizes words new s views after held held_after i block x li chains has comes transfer moved stay loses =
    coming_chains sizes words new s views after held held_after i block x li chains has comes transfer moved stay loses

pub returns-clause-starting : goal.returns-clause-starting
returns-clause-starting c sizes words new s views after held held_after i block x shape li chains has starts transfer moved stay loses =
    starting_chains sizes words new s views after held held_after i block x shape li chains has starts transfer moved stay loses
