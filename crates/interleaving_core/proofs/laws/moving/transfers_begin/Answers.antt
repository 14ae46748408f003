use Rattle.interleaving_core.proofs.MovingBegins as begins
use Rattle.interleaving_core.proofs.laws.moving.transfers_begin.Goals as goal

pub returns-clause-takes : goal.returns-clause-takes
returns-clause-takes c = begins.takes_begin

pub returns-clause-gives : goal.returns-clause-gives
returns-clause-gives c = begins.gives_begin
