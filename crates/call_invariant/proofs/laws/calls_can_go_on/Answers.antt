use Rattle.call_invariant.proofs.Uses.{calls_can_begin, moves_can_be_made}
use Rattle.call_invariant.proofs.laws.calls_can_go_on.Goals as goal

pub returns-clause-begin : goal.returns-clause-begin
returns-clause-begin c sizes v h fits = calls_can_begin sizes v h fits

pub returns-clause-move_on : goal.returns-clause-move_on
returns-clause-move_on c sizes i v ledger word h s moving given act meet = moves_can_be_made sizes i v word ledger h s moving given act meet
