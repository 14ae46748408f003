use Rattle.std.specs.Prelude.{◌≡◌, [], ◌∷◌}
use Rattle.batch_stack.specs.Alone.{OnlyMoved, Rests, spares_in}
use Rattle.batch_stack.proofs.transfer.tests.threads.play.Given as goal

abbrev pub invariant-loop : goal.invariant-loop
invariant-loop g l = OnlyMoved l.initial.player.seat l.initial.player.transfer l.player.seat l.player.transfer
    × Rests l.player.seat l.player.transfer × (spares_in l.player.seat.view ≡ l.head ∷ [])
