use Rattle.call_invariant.proofs.Carried.{transfer_steps_carry, enters_nothing}
use Rattle.call_invariant.proofs.laws.transfer_steps.Goals as goal

pub returns-clause-carry_on : goal.returns-clause-carry_on
returns-clause-carry_on c sizes i v ledger word h s moving some given nothing =
    rw moving (transfer_steps_carry sizes i v word ledger h s moving some given nothing)

pub returns-clause-enter_nothing : goal.returns-clause-enter_nothing
returns-clause-enter_nothing c v ledger word = enters_nothing word v.transfer.next ledger
