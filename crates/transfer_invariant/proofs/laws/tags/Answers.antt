use Rattle.transfer_invariant.proofs.Installs.{few_tags}
use Rattle.transfer_invariant.proofs.laws.tags.Goals as goal

pub returns : goal.returns
returns c sizes words views states few inv ages = few_tags sizes words views few inv.tags ages
