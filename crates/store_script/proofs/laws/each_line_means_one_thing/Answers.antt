use Rattle.store_script.proofs.Meanings as meanings
use Rattle.store_script.proofs.laws.each_line_means_one_thing.Goals as goal

pub returns : goal.returns
returns c = meanings.each_line_means_one_thing
