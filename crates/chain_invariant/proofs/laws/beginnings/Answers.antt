use Rattle.chain_invariant.proofs.Moves.{beginning_keeps}
use Rattle.chain_invariant.proofs.laws.beginnings.Goals as goal

pub returns : goal.returns
returns c sizes words s views after held i wish x li chains rest may same moved = record {
  batch_blocks = chains.batch_blocks;
  current_blocks = chains.current_blocks;
  hold = beginning_keeps sizes words s views after chains.batch_blocks chains.current_blocks held i wish x li
      chains.hold rest may same moved;
}
