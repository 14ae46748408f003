use Rattle.pool_machine.proofs.Ending.{ends}
use Rattle.pool_machine.proofs.laws.calls_end.Goals as goal

pub returns : goal.returns
returns c sizes call n views words some paced steps = ends sizes call n views words some paced steps
