use Rattle.std.proofs.Common.{arith}
use Rattle.block_pool.proofs.Going.{can_own, can_put}
use Rattle.block_pool.proofs.process.Process.own_free.Goals as goal

pub put_block-requires-clause-block : goal.put_block-requires-clause-block
put_block-requires-clause-block g c = let low = (can_own _ _ _ c.args.self.now c.requires.owning).0 in omega (arith, low)

pub put_block-requires-clause-room : goal.put_block-requires-clause-room
put_block-requires-clause-room g c =
    can_put _ _ _ c.args.self.now c.gave_one-target.new.self _ c.requires.owning c.gave_one-target.ensures.target
