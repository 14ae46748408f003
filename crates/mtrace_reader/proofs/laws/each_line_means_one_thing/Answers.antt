use Rattle.mtrace_reader.proofs.Meanings as meanings
use Rattle.mtrace_reader.proofs.laws.each_line_means_one_thing.Goals as goal

pub returns : goal.returns
returns c = meanings.each_line_means_one_thing
