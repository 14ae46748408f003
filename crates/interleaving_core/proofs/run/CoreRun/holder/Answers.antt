use Rattle.std.proofs.Common.{arith}
use Rattle.interleaving_core.proofs.Runs.{run_lengths, holder_seen}
use Rattle.interleaving_core.proofs.run.CoreRun.holder.Goals as goal

pub index-requires : goal.index-requires
index-requires c = omega (arith, c.self.inside.holders.ok, (run_lengths _ _ _ c.self.view_is c.self.invariant).holders, c.requires)

pub returns : goal.returns
returns c = holder_seen _ _ _ c.args.block _ c.self.view_is c.self.invariant c.requires c.index.ensures
