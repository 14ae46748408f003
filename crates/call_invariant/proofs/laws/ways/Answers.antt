use Rattle.call_invariant.proofs.Uses.{uses_calls, calls_used, transfers_used, uses_transfers, uses_stay}
use Rattle.call_invariant.proofs.laws.ways.Goals as goal

pub returns-clause-calls : goal.returns-clause-calls
returns-clause-calls c sizes i v ledger ne h = calls_used sizes i v ledger v.calls.way ne h

pub returns-clause-in_calls : goal.returns-clause-in_calls
returns-clause-in_calls c sizes i v ledger h = uses_calls sizes i v ledger v.calls.way h.way h

pub returns-clause-transfers : goal.returns-clause-transfers
returns-clause-transfers c sizes i v ledger e h = transfers_used sizes i v ledger v.calls.way e h

pub returns-clause-in_transfers : goal.returns-clause-in_transfers
returns-clause-in_transfers c sizes i v ledger h = uses_transfers sizes i v ledger v.calls.way h.way h

pub returns-clause-same : goal.returns-clause-same
returns-clause-same c sizes i v old new account entries h = uses_stay sizes i v old new v.calls.way account entries h
