use Rattle.std.proofs.Common.{arith, rules}
use Rattle.std.proofs.lemmas.Grind.{common_steps}
use Rattle.word_layout.specs.Names.{word_at}
use Rattle.schedule_replay.proofs.replaying.state_number.Goals as goal

pub returns : goal.returns
unfolding word_at
returns c = grind (arith, common_steps)
