use Rattle.pool_machine.proofs.Plans.{begun_fits, met_fits}
use Rattle.pool_machine.proofs.laws.sizes.Goals as goal

pub returns-clause-beginnings : goal.returns-clause-beginnings
returns-clause-beginnings c sizes call v h = begun_fits sizes call v h

pub returns-clause-steps : goal.returns-clause-steps
returns-clause-steps c sizes v word h = met_fits sizes v word h
