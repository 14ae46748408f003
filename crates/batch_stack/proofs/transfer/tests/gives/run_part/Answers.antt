use Rattle.std.proofs.Common.{refl}
use Rattle.batch_stack.proofs.Alone.{played_goes}
use Rattle.batch_stack.proofs.transfer.tests.gives.run_part.Goals as goal

pub returns-clause-goes : goal.returns-clause-goes
returns-clause-goes g c =
    let old = c.args.player.now in
    let new = c.run-progress.new.player in
    played_goes old.seat new.seat old.transfer new.transfer _ c.run-progress.ensures.moved c.run-progress.ensures.played
    (c.if-not-is_going.ensures.0 refl)
