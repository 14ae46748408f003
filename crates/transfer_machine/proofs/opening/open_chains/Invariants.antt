use Rattle.transfer_machine.specs.Filling.{Fills, next_below}
use Rattle.transfer_machine.proofs.opening.open_chains.Given as goal

abbrev pub invariant-loop-block : goal.invariant-loop-block
invariant-loop-block l = Fills l.shape (next_below l.block) l.initial.words l.words
