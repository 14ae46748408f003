use Rattle.std.proofs.Common.{arith}
use Rattle.interleaving_core.proofs.Runs.{run_lengths, word_seen}
use Rattle.interleaving_core.proofs.run.CoreRun.word.Goals as goal

pub index-requires : goal.index-requires
index-requires c = omega (arith, c.self.inside.words.ok, (run_lengths _ _ _ c.self.view_is c.self.invariant).words, c.requires)

pub returns : goal.returns
returns c = word_seen _ _ _ c.args.place _ c.self.view_is c.self.invariant c.requires c.index.ensures
