use Rattle.chain_invariant.proofs.Transfers.{transfer_keeps}
use Rattle.chain_invariant.proofs.laws.transfers.Goals as goal

pub returns : goal.returns
returns c sizes words new views after states held i x shape li chains step installs acted same moved = record {
  batch_blocks = chains.batch_blocks;
  current_blocks = chains.current_blocks;
  hold = transfer_keeps sizes words new views after states chains.batch_blocks chains.current_blocks held i x shape li
      chains.hold step installs acted same moved;
}
