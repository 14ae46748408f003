use Rattle.std.proofs.Common.{arith}
use Rattle.transfer_machine.proofs.Filled.{nexts_begun, nexts_filled}
use Rattle.transfer_machine.proofs.opening.open_chains.Goals as goal

pub loop-block-init : goal.loop-block-init
loop-block-init c = nexts_begun c.args.shape.now c.args.words.now

pub loop-block-preserved : goal.loop-block-preserved
loop-block-preserved c =
    nexts_filled c.args.shape.now c.loop-block.words c.args.words.now c.set.new.words c.loop-block.block c.requires
    (omega (arith, c.loop-block-test.true, c.blocks-block-end.ensures)) c.loop-block.invariant c.set.ensures
