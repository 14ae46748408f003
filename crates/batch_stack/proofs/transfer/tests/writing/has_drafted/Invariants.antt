use Rattle.std.specs.Prelude.{◌≡◌, ℕ, ◌<◌, slice_index}
use Rattle.transfer_machine.specs.Tries.{drafted_value}
use Rattle.batch_stack.proofs.transfer.tests.writing.has_drafted.Given as goal

abbrev pub invariant-loop-index : goal.invariant-loop-index
invariant-loop-index l = (index : ℕ) → index < l.index → drafted_value l.shape.processes l.draft index ≡ slice_index l.values index
