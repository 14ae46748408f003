use Rattle.std.proofs.Common.{refl}
use Rattle.call_invariant.proofs.Alone.{moves_alone, transfers_step}
use Rattle.call_invariant.proofs.laws.transfers_alone.Goals as goal

pub returns-clause-begin : goal.returns-clause-begin
returns-clause-begin c sizes i v ledger wish h may rest begins young =
    moves_alone sizes i v wish ledger v.calls.way refl h may rest begins young

pub returns-clause-step : goal.returns-clause-step
returns-clause-step c sizes i v ledger word h some given = transfers_step sizes i v word ledger h some given
