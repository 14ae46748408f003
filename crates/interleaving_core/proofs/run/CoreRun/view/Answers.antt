use Rattle.std.proofs.Common.{arith}
use Rattle.interleaving_core.proofs.Runs.{run_lengths, view_seen}
use Rattle.interleaving_core.proofs.run.CoreRun.view.Goals as goal

pub index-requires : goal.index-requires
index-requires c = omega (arith, c.self.inside.views.ok, (run_lengths _ _ _ c.self.view_is c.self.invariant).views, c.requires)

pub returns : goal.returns
returns c = view_seen _ _ _ c.args.process _ c.self.view_is c.self.invariant c.requires c.index.ensures
