use Rattle.batch_stack.specs.declared.progress.Progress.TheVariants.{Going}
use Rattle.batch_stack.specs.Alone.{OnlyMoved, Played}
use Rattle.batch_stack.proofs.transfer.tests.run.Given as goal

abbrev pub invariant-loop-made : goal.invariant-loop-made
invariant-loop-made l = OnlyMoved l.initial.player.seat l.initial.player.transfer l.player.seat l.player.transfer
    × Played l.initial.player.seat l.initial.player.transfer l.player.seat l.player.transfer Going
