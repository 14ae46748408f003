use Rattle.std.proofs.Common.{◌≡◌}
use Rattle.transfer_machine.specs.Words.{first_of, stack_at}
use Rattle.interleaving_core.proofs.content.stack_of.Given as goal

abbrev pub invariant-loop-place : goal.invariant-loop-place
invariant-loop-place l = l.heads.items ≡ first_of l.place (stack_at l.shape l.words)
