use Rattle.call_invariant.proofs.Uses.{withholds_few, empty_stack_leaves_few}
use Rattle.call_invariant.proofs.laws.empty_stacks.Goals as goal

pub returns-clause-withheld : goal.returns-clause-withheld
returns-clause-withheld c sizes history i v ledger h s = withholds_few sizes i v ledger v.calls.way h s

pub returns-clause-few : goal.returns-clause-few
returns-clause-few c limits history views each all = empty_stack_leaves_few limits history views each all
