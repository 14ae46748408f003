use Rattle.store_script.proofs.Determined.{only_refusals}
use Rattle.store_script.proofs.laws.calls_determine_refusals.Goals as goal

pub returns : goal.returns
returns c = only_refusals
