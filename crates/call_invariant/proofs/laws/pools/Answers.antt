use Rattle.call_invariant.proofs.Standing.{shape_fits, some_quantum}
use Rattle.call_invariant.proofs.Uses.{keeps_pool, steps_can_count, replies_can_end, due_begins, idle_pool_rests}
use Rattle.call_invariant.proofs.laws.pools.Goals as goal

pub returns-clause-keep : goal.returns-clause-keep
returns-clause-keep c sizes i v ledger h s = keeps_pool sizes i v ledger v.calls.way h s

pub returns-clause-count : goal.returns-clause-count
returns-clause-count c sizes v shape h few busy = steps_can_count sizes v (some_quantum sizes (shape_fits sizes shape)) h few busy

pub returns-clause-end : goal.returns-clause-end
returns-clause-end c sizes v word h answers = replies_can_end sizes v word h answers

pub returns-clause-due : goal.returns-clause-due
returns-clause-due c sizes v wish h e = due_begins sizes v wish h e

pub returns-clause-rest : goal.returns-clause-rest
returns-clause-rest c sizes v h idle = idle_pool_rests sizes v h idle
