use Rattle.call_invariant.proofs.Owned.{phase_own, gets_leave, refusals_leave, frees_leave, keeping_steps_leave}
use Rattle.call_invariant.proofs.laws.own_steps.Goals as goal

pub returns-clause-due : goal.returns-clause-due
returns-clause-due c sizes i v ledger h own = phase_own sizes i v ledger h own

pub returns-clause-gots : goal.returns-clause-gots
returns-clause-gots c sizes i v ledger word history entry h own call = rw own (gets_leave sizes i v word ledger history entry h own call)

pub returns-clause-refusals : goal.returns-clause-refusals
returns-clause-refusals c sizes i v ledger word history entry h own call =
    rw own (refusals_leave sizes i v word ledger history entry h own call)

pub returns-clause-backs : goal.returns-clause-backs
returns-clause-backs c sizes i v ledger word block history entry h s own call =
    rw own (frees_leave sizes i v word block ledger history entry h s own call)

pub returns-clause-keeping : goal.returns-clause-keeping
returns-clause-keeping c sizes i v ledger word h own keeps = rw own (keeping_steps_leave sizes i v word ledger h own keeps)
