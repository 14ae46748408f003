use Rattle.chain_invariant.proofs.Moves.{step_keeps}
use Rattle.chain_invariant.proofs.laws.steps.Goals as goal

pub returns : goal.returns
returns c sizes words s views after held i word x li chains step same moved = record {
  batch_blocks = chains.batch_blocks;
  current_blocks = chains.current_blocks;
  hold = step_keeps sizes words s views after chains.batch_blocks chains.current_blocks held i word x li chains.hold step same moved;
}
